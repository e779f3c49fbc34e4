use Rattle.std.proofs.Common.{◌≡◌, ◌++◌}
use Rattle.bindings.proofs.changes.copied_there.Given as goal

abbrev pub invariant-loop-binding : goal.invariant-loop-binding
invariant-loop-binding g l =
    (goal.iterator-loop-binding g).can_next l.rest ×
    (goal.iterator-loop-binding g).is_finite l.rest ×
    (l.copies.items ++ l.rest ≡ l.initial.rest)
