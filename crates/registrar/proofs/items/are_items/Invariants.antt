use Rattle.std.proofs.Common.{◌≡◌}
use Rattle.sip_uri.specs.Contact.{are_items}
use Rattle.registrar.proofs.items.are_items.Given as goal

abbrev pub invariant-loop-item : goal.invariant-loop-item
invariant-loop-item l =
    goal.iterator-loop-item.can_next l.items ×
    goal.iterator-loop-item.is_finite l.items ×
    (are_items l.items ≡ are_items l.initial.items)
