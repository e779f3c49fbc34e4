use Rattle.proxy_dispatch.proofs.Common.{None, Some, IfOk-weaker, seen_sent}
use Rattle.proxy_dispatch.proofs.Becoming.{key_so, keyed}
use Rattle.proxy_dispatch.proofs.Purposes.{a_request}
use Rattle.proxy_dispatch.specs.Looks.{shown}
use Rattle.proxy_dispatch.proofs.requests.requested.Goals as goal

pub returns-in-Some-find : goal.returns-in-Some-find
returns-in-Some-find g c =
    let r = c.args.received in
    let key = key_so _ _ _ _ _ c.in_ok-read.ensures.key c.in-Some.is c.deref.ensures.value in
    IfOk-weaker c.deliver_request.result _ _
    (λ outcome h. keyed shown (g.N.Admission.serving c.args.admission.now) c.args.setup.now r.message r.source r.now c.args.purpose outcome.handled (seen_sent outcome.datagram)
    c.args.table.now _ c.deliver_request.new.table c.deref.result.now c.find.result (Some c.in-Some-find.number) key c.find.ensures c.in-Some-find.is h)
    c.deliver_request.ensures

pub returns-in-None : goal.returns-in-None
returns-in-None g c =
    let r = c.args.received in
    let key = key_so _ _ _ _ _ c.in_ok-read.ensures.key c.in-Some.is c.deref.ensures.value in
    IfOk-weaker c.unknown-in-None.result _ _
    (λ outcome h. keyed shown (g.N.Admission.serving c.args.admission.now) c.args.setup.now r.message r.source r.now c.args.purpose outcome.handled (seen_sent outcome.datagram)
    c.args.table.now _ c.unknown-in-None.new.table c.deref.result.now c.find.result None key c.find.ensures c.in-None.is h)
    c.unknown-in-None.ensures

pub deliver_request-requires-clause-request : goal.deliver_request-requires-clause-request
deliver_request-requires-clause-request g c = a_request c.args.received.message.start c.args.purpose c.requires

pub deliver_request-requires-clause-key : goal.deliver_request-requires-clause-key
deliver_request-requires-clause-key g c = key_so _ _ _ _ _ c.in_ok-read.ensures.key c.in-Some.is c.deref-in-Some-find.ensures.value
