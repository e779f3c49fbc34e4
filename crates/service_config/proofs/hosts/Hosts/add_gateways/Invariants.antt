use Rattle.service_config.proofs.Common.{◌≡◌, ℕ, list_any, ◌||◌}
use Rattle.std.proofs.Common.{take}
use Rattle.service_config.specs.Settings.{is_gateway_at}
use Rattle.service_config.specs.inner.Hosts.{is_among}
use Rattle.service_config.proofs.hosts.Hosts.add_gateways.Given as goal

-- those of the first have come
abbrev pub invariant-loop-gateway : goal.invariant-loop-gateway
invariant-loop-gateway g l = (other : ℕ) → is_among l.self other ≡ (list_any (is_gateway_at other) (take l.gateway-index l.gateways) || is_among l.initial.self other)
