use Rattle.service_config.proofs.Common.{◌≡◌, ℕ, list_any, ◌||◌}
use Rattle.std.proofs.Common.{take}
use Rattle.service_config.specs.Settings.{is_location_at}
use Rattle.service_config.specs.inner.Hosts.{is_among}
use Rattle.service_config.proofs.hosts.Hosts.add_locations.Given as goal

-- those of the first have come
abbrev pub invariant-loop-location : goal.invariant-loop-location
invariant-loop-location g l = (other : ℕ) → is_among l.self other ≡ (list_any (is_location_at other) (take l.location-index l.locations) || is_among l.initial.self other)
