use Rattle.std.proofs.Common.{◌≡◌, ◌++◌, map}
use Rattle.service_decisions.specs.Targets.{bound_contact}
use Rattle.service_decisions.proofs.contacts.contacts_of.Given as goal

-- those that are left lead on to all
abbrev pub invariant-loop-binding : goal.invariant-loop-binding
invariant-loop-binding g l =
    (goal.iterator-loop-binding g).can_next l.there ×
    (goal.iterator-loop-binding g).is_finite l.there ×
    (l.contacts.items ++ map bound_contact l.there ≡ map bound_contact l.initial.there)
