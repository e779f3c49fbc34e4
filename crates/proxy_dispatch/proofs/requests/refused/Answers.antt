use Rattle.proxy_dispatch.proofs.Common.{◌∙◌, [], inl, inr, refl, subst, sym, MessageText, seen_sent}
use Rattle.sip_via.specs.Received.{reply_of}
use Rattle.sip_via.specs.TopVia.{top_value}
use Rattle.sip_via.specs.ViaParts.{via_of}
use Rattle.proxy_routing.specs.Admission.{IsPrepared}
use Rattle.fork_call.specs.Prepared.{IsPreparedAs}
use Rattle.proxy_dispatch.specs.Becomes.{IsStopped}
use Rattle.proxy_dispatch.proofs.Outcomes.{by_both, err_at, ok_at}
use Rattle.proxy_dispatch.proofs.requests.refused.Goals as goal

pub returns-in-Ok : goal.returns-in-Ok
returns-in-Ok g c =
    let o = c.args.opening in
    let is = ok_at c.in_ok-prepared.field-0 (IsPreparedAs c.args.setup.now o.request o.source) c.in-Ok.prepared c.in-Ok.is c.in_ok-prepared.ensures.passed in
    let P : MessageText → Type 0 = λ x. IsPrepared c.args.setup.now o.request o.source x in
    by_both c.marked_answer.result _ _ _
    (λ outcome handled sent. inr (refl, (c.in-Ok.prepared, is), (handled, sent)))
    c.marked_answer.ensures.handled
    (c.marked_answer.ensures.prepared c.args.setup.now o.request o.source (subst P (sym c.request.ensures) is.admitted.prepared)
    (c.caller.ensures ∙ (λ k. reply_of (via_of (top_value (sym c.request.ensures k))) (is.from k))))

pub returns-in-Err : goal.returns-in-Err
returns-in-Err g c =
    let o = c.args.opening in
    inl (err_at c.in_ok-prepared.field-0 (λ outcome. IsStopped c.args.setup.now o.request o.source [] outcome.handled (seen_sent outcome.datagram)) c.in-Err.outcome c.in-Err.is c.in_ok-prepared.ensures.stopped)
