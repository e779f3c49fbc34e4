use Rattle.proxy_dispatch.proofs.Taking.{answers_so, number_kept}
use Rattle.proxy_dispatch.proofs.calls.take_request.Goals as goal

pub returns-clause-answer : goal.returns-clause-answer
returns-clause-answer g c =
    answers_so c.take_request.result c.args.call.now _ c.args.received.message c.args.received.source c.args.received.now c.take_request.ensures.step
    c.take_request.ensures.stray c.take_request.ensures.full c.take_request.ensures.err

pub returns-clause-number : goal.returns-clause-number
returns-clause-number g c =
    number_kept c.take_request.result c.args.call.now _ c.args.received.message c.args.received.source c.args.received.now
    (answers_so c.take_request.result c.args.call.now _ c.args.received.message c.args.received.source c.args.received.now c.take_request.ensures.step
    c.take_request.ensures.stray c.take_request.ensures.full c.take_request.ensures.err)
