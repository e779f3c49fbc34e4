use Rattle.registrar.proofs.Values.{one_unsupported, unsupported_header}
use Rattle.registrar.proofs.asking.extension_answer.Goals as goal

pub push-requires : goal.push-requires
push-requires g c =
    unsupported_header c.loop-value.values c.in-Some.value.now c.next.new.self c.in_ok-copy.copy.items c.in-Some.ensures.steps c.loop-value.invariant.2.2 c.in_ok-copy.ensures.items

pub loop-value-preserved : goal.loop-value-preserved
loop-value-preserved g c =
    let more =
    one_unsupported _ _ c.loop-value.values c.next.new.self c.in-Some.value.now c.in_ok-copy.copy.items _ c.in-Some.ensures.steps c.in_ok-copy.ensures.items c.in_ok-push.ensures.ok
    c.loop-value.invariant.2 in
    (tt, tt, more)
