use Rattle.std.proofs.Common.{rules}
use Rattle.proxy_dispatch.specs.Looks.{AnswersTake, shown}
use Rattle.proxy_dispatch.proofs.Looking.{none_so, seen_so}
use Rattle.proxy_dispatch.proofs.calls.SharedCalls.take_request.Goals as goal

pub returns-clause-seen : goal.returns-clause-seen
unfolding shown
returns-clause-seen g c =
    seen_so c.with.result c.args.number _ (λ before answer after. AnswersTake before c.args.received.message c.args.received.source c.args.received.now answer after)
    (λ old new answer leads. search rules) (λ old new answer leads. search rules) c.with.ensures

pub returns-clause-missed : goal.returns-clause-missed
unfolding shown
returns-clause-missed g c = none_so c.with.result _ tt
