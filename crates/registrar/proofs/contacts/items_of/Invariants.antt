use Rattle.std.proofs.Common.{◌≡◌, ◌++◌}
use Rattle.registrar.specs.Contacts.{items_of}
use Rattle.registrar.specs.SeenContacts.{view_items}
use Rattle.registrar.proofs.contacts.items_of.Given as goal

abbrev pub invariant-loop-line : goal.invariant-loop-line
invariant-loop-line g l =
    (goal.iterator-loop-line g).can_next l.lines ×
    (goal.iterator-loop-line g).is_finite l.lines ×
    (view_items l.items.items ++ items_of l.lines ≡ items_of l.initial.lines)
