use Rattle.std.proofs.Common.{◌≡◌, ◌++◌}
use Rattle.registrar.specs.SeenContacts.{view_items}
use Rattle.registrar.proofs.contacts.append_items.Given as goal

abbrev pub invariant-loop-item : goal.invariant-loop-item
invariant-loop-item g l =
    (goal.iterator-loop-item g).can_next l.rest ×
    (goal.iterator-loop-item g).is_finite l.rest ×
    (view_items l.items.items ++ l.rest ≡ view_items l.fn.items.items ++ l.initial.rest)
