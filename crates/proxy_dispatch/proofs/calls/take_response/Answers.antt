use Rattle.proxy_dispatch.proofs.Taking.{answers_so}
use Rattle.proxy_dispatch.proofs.calls.take_response.Goals as goal

pub returns-then-eq-clause-answer : goal.returns-then-eq-clause-answer
returns-then-eq-clause-answer g c =
    answers_so c.take_response.result c.args.call.now _ c.args.response c.args.source c.args.now c.take_response.ensures.step c.take_response.ensures.stray
    c.take_response.ensures.full c.take_response.ensures.err
