use Rattle.sip_uri.proofs.Common.{◌≡◌, ◌++◌, Some, map, option_copied, contact_of, items_behind, view_contacts}
use Rattle.sip_uri.proofs.Keys.{size}
use Rattle.sip_uri.proofs.contact.contacts_of.Given as goal

abbrev pub invariant-loop-rest : goal.invariant-loop-rest
invariant-loop-rest g l = view_contacts l.contacts.items ++ map contact_of (items_behind (option_copied l.rest)) ≡ map contact_of (items_behind (Some l.value))

abbrev pub decreases-loop-rest : goal.decreases-loop-rest
decreases-loop-rest g l = size (option_copied l.rest)
