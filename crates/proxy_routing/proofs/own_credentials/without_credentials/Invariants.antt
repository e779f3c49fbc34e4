use Rattle.std.proofs.Common.{length, ◌-◌}
use Rattle.proxy_routing.specs.inner.TakenOff.{IsTakenSoFar}
use Rattle.proxy_routing.proofs.own_credentials.without_credentials.Given as goal

abbrev pub invariant-loop-place : goal.invariant-loop-place
invariant-loop-place g l = IsTakenSoFar l.realm l.initial.message l.message l.place

abbrev pub decreases-loop-place : goal.decreases-loop-place
decreases-loop-place g l = length l.message.headers - l.place
