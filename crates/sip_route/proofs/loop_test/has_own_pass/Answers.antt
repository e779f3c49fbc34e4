use Rattle.sip_route.proofs.Common.{ℕ, List, IsOwnPass, via_values}
use Rattle.sip_route.proofs.Walks.{walk_found, walk_past}
use Rattle.sip_route.proofs.loop_test.has_own_pass.Goals as goal

pub returns-then-is_own_pass : goal.returns-then-is_own_pass
returns-then-is_own_pass g c = walk_found (λ (value : List ℕ). IsOwnPass c.args.own c.args.key.now value) (via_values c.args.message.now) c.loop-value.values c.next.new.self c.in-Some.value.now c.is_own_pass.result c.in-Some.ensures.some c.is_own_pass.ensures c.if-is_own_pass.true c.loop-value.invariant

pub loop-value-preserved : goal.loop-value-preserved
loop-value-preserved g c = walk_past (λ (value : List ℕ). IsOwnPass c.args.own c.args.key.now value) (via_values c.args.message.now) c.loop-value.values c.next.new.self c.in-Some.value.now c.is_own_pass.result c.in-Some.ensures.some c.is_own_pass.ensures c.if-is_own_pass.false c.loop-value.invariant
