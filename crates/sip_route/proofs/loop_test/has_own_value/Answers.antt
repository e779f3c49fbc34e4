use Rattle.sip_route.proofs.Common.{ℕ, List, IsOwnValue, via_values}
use Rattle.sip_route.proofs.Walks.{walk_found, walk_past}
use Rattle.sip_route.proofs.loop_test.has_own_value.Goals as goal

pub returns-then-is_own_value : goal.returns-then-is_own_value
returns-then-is_own_value g c = walk_found (λ (value : List ℕ). IsOwnValue c.args.own value) (via_values c.args.message.now) c.loop-value.values c.next.new.self c.in-Some.value.now c.is_own_value.result c.in-Some.ensures.some c.is_own_value.ensures c.if-is_own_value.true c.loop-value.invariant

pub loop-value-preserved : goal.loop-value-preserved
loop-value-preserved g c = walk_past (λ (value : List ℕ). IsOwnValue c.args.own value) (via_values c.args.message.now) c.loop-value.values c.next.new.self c.in-Some.value.now c.is_own_value.result c.in-Some.ensures.some c.is_own_value.ensures c.if-is_own_value.false c.loop-value.invariant
