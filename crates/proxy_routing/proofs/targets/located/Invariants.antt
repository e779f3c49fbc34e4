use Rattle.std.proofs.Common.{◌≡◌, ◌++◌, length, map}
use Rattle.proxy_routing.specs.Targets.{candidate_at}
use Rattle.proxy_routing.proofs.targets.located.Given as goal

-- with those that are left they are all
abbrev pub invariant-loop-location : goal.invariant-loop-location
invariant-loop-location g l = l.candidates.items ++ map (candidate_at l.streams l.route) l.locations ≡ map (candidate_at l.streams l.route) l.initial.locations

abbrev pub decreases-loop-location : goal.decreases-loop-location
decreases-loop-location g l = length l.locations
