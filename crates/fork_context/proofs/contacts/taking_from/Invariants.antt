use Rattle.fork_context.proofs.Common.{◌≡◌, drop, keys_of}
use Rattle.fork_model.specs.Contacts as contacts
use Rattle.fork_context.proofs.PlainContacts.{joined}
use Rattle.fork_context.proofs.contacts.taking_from.Given as goal

abbrev pub invariant-loop-place : goal.invariant-loop-place
invariant-loop-place g l =
    joined l.taking (contacts.taking_from l.targets l.place (drop l.place l.offers)) ≡ contacts.taking_from (keys_of l.fork.rows) 0 l.offers
