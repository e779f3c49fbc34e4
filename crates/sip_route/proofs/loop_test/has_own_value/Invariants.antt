use Rattle.sip_route.proofs.Common.{length, IsOwnValue, via_values}
use Rattle.sip_route.proofs.Walks.{SameAny}
use Rattle.sip_route.proofs.loop_test.has_own_value.Given as goal

abbrev pub invariant-loop-value : goal.invariant-loop-value
invariant-loop-value g l = SameAny (λ value. IsOwnValue l.own value) l.values (via_values l.message)

abbrev pub decreases-loop-value : goal.decreases-loop-value
decreases-loop-value g l = length l.values
