use Rattle.fork_tree.proofs.Common.{◌≡◌, ◌++◌, [], ◌∷◌, arith, refl}
use Rattle.fork_tree.proofs.Traces.{traced_below, traced_top}
use Rattle.fork_tree.proofs.place.+trace.Goals as goal
use Rattle.fork_tree.proofs.place.+trace.Goals.{in-Some, in_default}

pub returns-clause-items : goal.returns-clause-items
returns-clause-items g t c =
    let last : c.push_reserved-2.new.self.items ≡ (c.match-place.path.items ++ c.node_place-place.result.group ∷ []) ++ c.node_place-place.result.place ∷ [] =
    cc (c.push_reserved.ensures.items, c.push_reserved-2.ensures.items) in
    elim c.match-place.branch [
      | in-Some w ↦ traced_below c.args.places.now c.args.n w.in-Some.m c.node_place-place.result c.args.path.now.items _ _ c.requires.older c.node_place-place.ensures w.in-Some.is
          (rw w.path-is w.trace.ensures.items) last
      | in_default w ↦ traced_top c.args.places.now c.args.n c.node_place-place.result c.args.path.now.items _ _ c.node_place-place.ensures w.in_default.is
          (rw w.path-is refl) last
    ]

pub returns-clause-len : goal.returns-clause-len
returns-clause-len g t c = grind arith
