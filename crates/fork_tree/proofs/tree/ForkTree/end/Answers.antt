use Rattle.fork_tree.proofs.Common.{◌≡◌, ◌++◌, ◌∷◌, ◌+◌, ℕ, List, Some, None, length, map, arith, ap, sym, subst, ◌∙◌, Row, with_state, NodePlace, BranchState, Ended, plain_state, has_ended, Entry, Rules, NewRow, ◌⊎◌, ◌<◌, path_of, rows_of, AreOlder}
use Rattle.fork_tree.proofs.Common.{Waiting, waiting_row, place_in, AreTogether, IsTree, kept_of, Tree, ◌≤◌, [], length-append, AreKnown, AreMet, Changes, common_steps}
use Rattle.fork_tree.proofs.GroupNumbers.{together_more, new_rows_together}
use Rattle.fork_tree.proofs.Summaries.{open_some}
use Rattle.fork_tree.proofs.Placed.{open_row}
use Rattle.fork_tree.proofs.Opening.{AreRising, new_rows_rise, length_new_entries, open_new_rows, new_rows_keep_none}
use Rattle.fork_tree.proofs.Trees.{value_after}
use Rattle.std.specs.Prelude.{vec_capacity}
use Rattle.fork_tree.proofs.Ways.{known_more, known_last, tree_met_end}
use Rattle.fork_tree.proofs.Ends.{tree_ended, rows_ended, open_unended, added}
use Rattle.fork_tree.proofs.tree.ForkTree.end.Goals as goal
use Rattle.fork_tree.proofs.Counts.{rows_count}
use Rattle.fork_tree.proofs.Traces.{path_traced}

-- the new rows are numbered from the first number that is free
next_number : (rules : Rules) (all : List NodePlace) (root : List Entry) (now : Tree) (first : ℕ) (new_rows : List NewRow) (below : Waiting)
    → record { rules = rules; rows = rows_of all root } ≡ now
    → record { first = first; new_rows = new_rows } ≡ below → below.first ≡ length now.rows → first ≡ length all
next_number rules all root now first new_rows below v b next = ap (λ (w : Waiting). w.first) b ∙ next ∙ rows_count rules all root now v

-- where no rows come, the room that there is serves
either_room : (count need own other : ℕ) → (count ≡ 0 → need ≤ own) → (0 < count → need ≤ other) → (need ≤ own) ⊎ (need ≤ other)
either_room count need own other kept taken = grind arith

pub make_room-requires-clause-enough : goal.make_room-requires-clause-enough
make_room-requires-clause-enough g c =
    let first = next_number _ c.self.inside.places.items c.self.inside.root _ _ _ _ c.self.view_is c.below.view_is c.requires.next in
    grind (arith, common_steps, either_room, vec_capacity)

pub make_room-requires-2-clause-enough : goal.make_room-requires-2-clause-enough
make_room-requires-2-clause-enough g c =
    let first = next_number _ c.self.inside.places.items c.self.inside.root _ _ _ _ c.self.view_is c.below.view_is c.requires.next in
    grind (arith, common_steps, either_room, vec_capacity)

pub make_room-requires-3-clause-enough : goal.make_room-requires-3-clause-enough
make_room-requires-3-clause-enough g c =
    let first = next_number _ c.self.inside.places.items c.self.inside.root _ _ _ _ c.self.view_is c.below.view_is c.requires.next in
    grind (arith, common_steps, either_room, vec_capacity)

pub trace-requires-clause-known : goal.trace-requires-clause-known
trace-requires-clause-known g c =
    let at = open_row _ c.self.inside.places.items c.self.inside.root c.args.n (ap (λ (t : Tree). t.rows) c.self.view_is) (open_unended _ c.requires.there) in
    omega (arith, at.0, ap length c.deref.ensures.value, ap length c.make_room.ensures.items)

pub trace-requires-clause-older : goal.trace-requires-clause-older
trace-requires-clause-older g c = subst AreOlder (sym (c.deref.ensures.value ∙ c.make_room.ensures.items)) c.self.invariant.tree.older

pub trace-requires-clause-room : goal.trace-requires-clause-room
trace-requires-clause-room g c =
    let at = open_row _ c.self.inside.places.items c.self.inside.root c.args.n (ap (λ (t : Tree). t.rows) c.self.view_is) (open_unended _ c.requires.there) in
    omega (arith, at.0, ap length (c.make_room-2.ensures.items ∙ c.clear.ensures.items), c.make_room-2.ensures.room, c.len.ensures)

pub end-requires : goal.end-requires
end-requires g c =
    let at = open_row _ c.self.inside.places.items c.self.inside.root c.args.n (ap (λ (t : Tree). t.rows) c.self.view_is) (open_unended _ c.requires.there) in
    let first = next_number _ c.self.inside.places.items c.self.inside.root _ _ _ _ c.self.view_is c.below.view_is c.requires.next in
    let added = c.below.invariant.added in
    grind (arith, common_steps, added.waiting_row, length_new_entries, path_traced, new_rows_keep_none, open_new_rows)

pub after-self-inside-requires-clause-some : goal.after-self-inside-requires-clause-some
after-self-inside-requires-clause-some g c =
    let at = open_row _ c.self.inside.places.items c.self.inside.root c.args.n (ap (λ (t : Tree). t.rows) c.self.view_is) (open_unended _ c.requires.there) in
    omega (arith, c.self.invariant.tree.summary.open_count, open_some c.self.inside.root (path_of c.self.inside.places.items c.args.n) at.1)

pub invariant_of-self : goal.invariant_of-self
invariant_of-self g c =
    let at = open_row _ c.self.inside.places.items c.self.inside.root c.args.n (ap (λ (t : Tree). t.rows) c.self.view_is) (open_unended _ c.requires.there) in
    let first = next_number _ c.self.inside.places.items c.self.inside.root _ _ _ _ c.self.view_is c.below.view_is c.requires.next in
    let path =
    path_traced c.self.inside.places.items _ c.args.n _ _ _ c.deref-3.ensures.value c.trace.ensures.items
    (c.make_room-2.ensures.items ∙ c.clear.ensures.items) (c.deref.ensures.value ∙ c.make_room.ensures.items) in
    let rise = subst AreRising (sym c.below.invariant.added.rising.1) (new_rows_rise None 0 0 c.below.invariant.added.rising.0) in
    let places = added (Some c.args.n) _ _ _ _ _ c.add_places.ensures.items c.make_room.ensures.items c.deref-2.ensures.value in
    let change =
    subst (λ (x : List Entry). Changes c.self.inside.root c.end.new.self (path_of c.self.inside.places.items c.args.n) c.of-standing.result x
    c.len-opens.result) c.below.invariant.added.waiting_row
    (subst (λ (x : List ℕ). Changes c.self.inside.root c.end.new.self x c.of-standing.result c.below.inside.level c.len-opens.result) path c.end.ensures) in
    let rows = ap (λ x. rows_of x c.end.new.self) places
    ∙ rows_ended c.self.inside.rules c.self.inside.places.items c.self.inside.root c.end.new.self c.self.inside.summary c.args.n c.of-standing.result
    c.below.inside.new_rows.items c.below.inside.first c.len-opens.result c.self.invariant.tree at.0 rise first change in
    let answer : c.of-standing.result.answer ≡ kept_of c.self.inside.rules c.args.n c.of-standing.result.state =
    ap (λ (s : BranchState). s.answer) c.of-standing.ensures ∙ ap (λ (s : BranchState). kept_of c.self.inside.rules c.args.n s.state) (sym c.of-standing.ensures) in
    let tree : IsTree c.self.inside.rules c.add_places.new.places.items c.end.new.self c.after-self-inside.result =
    subst (λ (x : List NodePlace). IsTree c.self.inside.rules x c.end.new.self c.after-self-inside.result) (sym places)
    (tree_ended c.self.inside.rules c.self.inside.places.items c.self.inside.root c.end.new.self c.self.inside.summary c.after-self-inside.result c.args.n
    c.of-standing.result
    c.below.inside.new_rows.items c.below.inside.first c.len-opens.result c.self.invariant.tree at.0 rise answer first c.below.invariant.added.few change
    c.after-self-inside.ensures.kept c.after-self-inside.ensures.open_count) in
    let many = length_new_entries c.below.inside.first c.below.inside.new_rows.items in
    let total : length c.add_places.new.places.items ≡ c.len.result + c.len-2.result =
    omega (arith, tree.sized, change.sized, c.self.invariant.tree.sized, many, c.len.ensures, c.len-2.ensures) in
    let recent : c.push_reserved.new.self.items ≡ c.self.inside.recent.items ++ Some c.args.n ∷ [] =
    c.push_reserved.ensures.items ∙ ap (λ x. x ++ Some c.args.n ∷ []) c.make_room-3.ensures.items in
    let bigger : length c.self.inside.places.items ≤ length c.add_places.new.places.items =
    omega (arith, tree.sized, change.sized, c.self.invariant.tree.sized) in
    record {
      tree = tree;
      together = subst AreTogether (sym places) (together_more None c.self.inside.places.items (map (place_in (Some c.args.n)) c.below.inside.new_rows.items) c.self.invariant.together
          (subst (λ (x : List NewRow). AreTogether (map (place_in (Some c.args.n)) x)) (sym c.below.invariant.added.rising.1)
          (new_rows_together (Some c.args.n) c.below.invariant.added.rising.0)));
      places_room = omega (arith, total, c.make_room.ensures.room, c.add_places.ensures.capacity);
      path_room = omega (arith, total, c.make_room-2.ensures.room, c.trace.ensures.capacity);
      recent_room = omega (arith, total, c.make_room-3.ensures.room, c.push_reserved.ensures.capacity);
      recent_few = omega (
        arith,
        c.self.invariant.recent_few,
        ap length recent,
        length-append c.self.inside.recent.items (Some c.args.n ∷ []),
        c.after-self-inside.ensures.open_count,
        c.len-opens.ensures,
        total,
        c.len.ensures,
        c.len-2.ensures,
      );
      known = subst (AreKnown (length c.add_places.new.places.items)) (sym recent)
          (known_last (length c.add_places.new.places.items) c.self.inside.recent.items (Some c.args.n)
          (known_more (length c.self.inside.places.items) (length c.add_places.new.places.items) c.self.inside.recent.items bigger c.self.invariant.known)
          (omega (arith, at.0, bigger)));
      met = subst (AreMet (rows_of c.add_places.new.places.items c.end.new.self)) (sym recent)
          (tree_met_end c.self.inside.places.items c.add_places.new.places.items c.self.inside.root c.end.new.self c.args.self.now.rows c.below.inside.new_rows.items c.args.n
          c.of-standing.result.state c.self.inside.recent.items c.self.invariant.tree.older tree.older (ap (λ (t : Tree). t.rows) c.self.view_is)
          c.self.invariant.met c.requires.there rows
          (ap (λ (s : BranchState). has_ended s.state) c.of-standing.ensures));
    }

pub returns : goal.returns
returns g c =
    let at = open_row _ c.self.inside.places.items c.self.inside.root c.args.n (ap (λ (t : Tree). t.rows) c.self.view_is) (open_unended _ c.requires.there) in
    let first = next_number _ c.self.inside.places.items c.self.inside.root _ _ _ _ c.self.view_is c.below.view_is c.requires.next in
    let path =
    path_traced c.self.inside.places.items _ c.args.n _ _ _ c.deref-3.ensures.value c.trace.ensures.items
    (c.make_room-2.ensures.items ∙ c.clear.ensures.items) (c.deref.ensures.value ∙ c.make_room.ensures.items) in
    let rise = subst AreRising (sym c.below.invariant.added.rising.1) (new_rows_rise None 0 0 c.below.invariant.added.rising.0) in
    let places = added (Some c.args.n) _ _ _ _ _ c.add_places.ensures.items c.make_room.ensures.items c.deref-2.ensures.value in
    let change =
    subst (λ (x : List Entry). Changes c.self.inside.root c.end.new.self (path_of c.self.inside.places.items c.args.n) c.of-standing.result x
    c.len-opens.result) c.below.invariant.added.waiting_row
    (subst (λ (x : List ℕ). Changes c.self.inside.root c.end.new.self x c.of-standing.result c.below.inside.level c.len-opens.result) path c.end.ensures) in
    value_after c.self.inside.rules (rows_of c.self.inside.places.items c.self.inside.root) (rows_of c.add_places.new.places.items c.end.new.self) c.args.self.now
    (λ (r : List Row). with_state r c.args.n (plain_state (Ended c.args.end)) ++ map (waiting_row (Some c.args.n)) c.args.below.new_rows) c.self.view_is
    (ap (λ x. rows_of x c.end.new.self) places
    ∙ rows_ended c.self.inside.rules c.self.inside.places.items c.self.inside.root c.end.new.self c.self.inside.summary c.args.n c.of-standing.result
    c.below.inside.new_rows.items c.below.inside.first c.len-opens.result c.self.invariant.tree at.0 rise first change
    ∙ ap (λ (s : BranchState). with_state (rows_of c.self.inside.places.items c.self.inside.root) c.args.n (plain_state s.state) ++ map (waiting_row (Some c.args.n)) c.below.inside.new_rows.items) c.of-standing.ensures
    ∙ ap (λ (w : Waiting). with_state (rows_of c.self.inside.places.items c.self.inside.root) c.args.n (plain_state (Ended c.args.end)) ++ map (waiting_row (Some c.args.n)) w.new_rows) c.below.view_is)
