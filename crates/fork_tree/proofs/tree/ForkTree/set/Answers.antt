use Rattle.fork_tree.proofs.Common.{ℕ, List, [], length, arith, ap, subst, Row, with_state, plain_state, unanswered, rows_of, Tree, Changes}
use Rattle.fork_tree.proofs.Placed.{open_row}
use Rattle.fork_tree.proofs.Ways.{tree_met_set}
use Rattle.fork_tree.proofs.Trees.{tree_set, rows_set, value_after}
use Rattle.fork_tree.proofs.tree.ForkTree.set.Goals as goal
use Rattle.fork_tree.proofs.Traces.{path_traced}

pub trace-requires-clause-known : goal.trace-requires-clause-known
trace-requires-clause-known g c =
    let at = open_row _ c.self.inside.places.items c.self.inside.root c.args.n (ap (λ (t : Tree). t.rows) c.self.view_is) c.requires.there in
    omega (arith, at.0, ap length c.deref.ensures.value)

pub trace-requires-clause-room : goal.trace-requires-clause-room
trace-requires-clause-room g c =
    let at = open_row _ c.self.inside.places.items c.self.inside.root c.args.n (ap (λ (t : Tree). t.rows) c.self.view_is) c.requires.there in
    omega (arith, at.0, c.clear.ensures.len, c.clear.ensures.capacity, c.self.invariant.path_room, c.self.invariant.tree.few)

pub set-requires-clause-there : goal.set-requires-clause-there
set-requires-clause-there g c = grind (arith, open_row)

pub invariant_of-self : goal.invariant_of-self
invariant_of-self g c =
    let at = open_row _ c.self.inside.places.items c.self.inside.root c.args.n (ap (λ (t : Tree). t.rows) c.self.view_is) c.requires.there in
    let change = subst (λ (x : List ℕ). Changes c.self.inside.root c.set.new.self x (unanswered c.args.state) [] 1)
    (path_traced c.self.inside.places.items _ c.args.n _ _ _ c.deref-2.ensures.value c.trace.ensures.items c.clear.ensures.items c.deref.ensures.value)
    c.set.ensures in
    record {
      tree = tree_set c.self.inside.rules c.self.inside.places.items c.self.inside.root c.set.new.self c.self.inside.summary c.args.n c.args.state
          c.self.invariant.tree at.0 c.requires.waits change;
      together = c.self.invariant.together;
      path_room = omega (arith, c.self.invariant.path_room, c.clear.ensures.capacity, c.trace.ensures.capacity);
      places_room = c.self.invariant.places_room;
      recent_room = c.self.invariant.recent_room;
      recent_few = c.self.invariant.recent_few;
      known = c.self.invariant.known;
      met = tree_met_set c.self.inside.places.items c.self.inside.root c.set.new.self c.args.self.now.rows c.args.n c.args.state c.self.inside.recent.items
          c.self.invariant.tree.older (ap (λ (t : Tree). t.rows) c.self.view_is) c.self.invariant.met c.requires.there
          (rows_set c.self.inside.places.items c.self.inside.root c.set.new.self c.args.n c.args.state c.self.invariant.tree.placed at.0 change.branch)
          c.requires.waits c.requires.busy;
    }

pub returns : goal.returns
returns g c =
    let at = open_row _ c.self.inside.places.items c.self.inside.root c.args.n (ap (λ (t : Tree). t.rows) c.self.view_is) c.requires.there in
    let change = subst (λ (x : List ℕ). Changes c.self.inside.root c.set.new.self x (unanswered c.args.state) [] 1)
    (path_traced c.self.inside.places.items _ c.args.n _ _ _ c.deref-2.ensures.value c.trace.ensures.items c.clear.ensures.items c.deref.ensures.value)
    c.set.ensures in
    value_after c.self.inside.rules (rows_of c.self.inside.places.items c.self.inside.root) (rows_of c.self.inside.places.items c.set.new.self) c.args.self.now
    (λ (r : List Row). with_state r c.args.n (plain_state c.args.state)) c.self.view_is
    (rows_set c.self.inside.places.items c.self.inside.root c.set.new.self c.args.n c.args.state c.self.invariant.tree.placed at.0 change.branch)
