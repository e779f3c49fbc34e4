use Rattle.proxy_dispatch.proofs.Common.{None, Some, ap, refl, seen_sent}
use Rattle.proxy_dispatch.proofs.Becoming.{answered_by}
use Rattle.proxy_dispatch.proofs.Outcomes.{by_both}
use Rattle.proxy_dispatch.proofs.registers.of_registrar.Goals as goal

pub returns-in-Some : goal.returns-in-Some
returns-in-Some g c = λ m is.
    let serving = g.N.Admission.serving c.args.admission.now in
    by_both c.marked_answer.result _ _ _
    (λ outcome handled sent. answered_by serving c.args.setup.now m c.args.request.now c.args.source c.args.now outcome.handled (seen_sent outcome.datagram) c.in_ok-answer.field-0 (Some c.in-Some.answer)
    c.in_ok-answer.ensures c.in-Some.is (refl, (handled, sent)))
    c.marked_answer.ensures.handled (c.marked_answer.ensures.marked m c.args.source is c.requires)

pub returns-in-None : goal.returns-in-None
returns-in-None g c = λ m is.
    let serving = g.N.Admission.serving c.args.admission.now in
    let outcome = c.silent.result in
    answered_by serving c.args.setup.now m c.args.request.now c.args.source c.args.now outcome.handled (seen_sent outcome.datagram) c.in_ok-answer.field-0 None
    c.in_ok-answer.ensures c.in-None.is (refl, c.silent.ensures.handled, ap seen_sent c.silent.ensures.silent)
