use Rattle.std.proofs.Common.{◌≡◌, take}
use Rattle.service_decisions.proofs.gateways.contacts_of.Given as goal

abbrev pub invariant-loop-target : goal.invariant-loop-target
invariant-loop-target g l = l.contacts.items ≡ take l.target-index l.targets
