use Rattle.call_caller.proofs.Common.{◌≡◌, ◌++◌, flat_map, view_contacts, contacts_at}
use Rattle.call_caller.proofs.contacts.add_each.Given as goal

abbrev pub invariant-loop-value : goal.invariant-loop-value
invariant-loop-value g l =
    (goal.iterator-loop-value g).can_next l.values
    × (goal.iterator-loop-value g).is_finite l.values
    × (view_contacts l.contacts.items ++ flat_map contacts_at l.values ≡ view_contacts l.fn.contacts.items ++ flat_map contacts_at l.initial.values)
