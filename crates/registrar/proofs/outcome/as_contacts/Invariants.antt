use Rattle.std.proofs.Common.{◌≡◌, take}
use Rattle.bindings.specs.Seen.{all_asked_of}
use Rattle.registrar.proofs.outcome.as_contacts.Given as goal

abbrev pub invariant-loop-contact : goal.invariant-loop-contact
invariant-loop-contact g l = all_asked_of l.contacts.items ≡ take l.contact-index l.asked
