use Rattle.std.proofs.Common.{◌≡◌, ◌++◌, drop, map, take}
use Rattle.proxy_config.specs.Setup.{with_longest}
use Rattle.proxy_config.proofs.listed.ring_all.Given as goal

-- those so far have the longest time, the others are as they were
abbrev pub invariant-loop-location : goal.invariant-loop-location
invariant-loop-location g l =
    l.location-items ≡ map (with_longest l.longest) (take l.location-index l.initial.location-items) ++ drop l.location-index l.initial.location-items
