use Rattle.std.proofs.Common.{◌≡◌, map, take}
use Rattle.service_decisions.specs.Targets.{gateway_contact}
use Rattle.service_decisions.proofs.gateways.targets_for.Given as goal

abbrev pub invariant-loop-gateway : goal.invariant-loop-gateway
invariant-loop-gateway g l = l.targets.items ≡ map (gateway_contact l.user) (take l.gateway-index l.gateways)
