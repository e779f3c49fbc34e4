use Rattle.proxy_dispatch.proofs.Common.{◌∙◌, ap, sym, IfOk-weaker}
use Rattle.sip_text.specs.Seen.{view_lines}
use Rattle.sip_via.specs.Received.{marked}
use Rattle.proxy_dispatch.specs.Sent.{answer_made, answer_to}
use Rattle.proxy_dispatch.proofs.Becoming.{unmarked_answer}
use Rattle.proxy_dispatch.proofs.answers.answer_of.Goals as goal

pub returns-in-BadVia : goal.returns-in-BadVia
returns-in-BadVia g c =
    IfOk-weaker c.answer_to-in-BadVia.result _ _
    (λ datagram h. h ∙ unmarked_answer c.args.source c.args.status (view_lines c.args.further.now) c.args.request c.in-Err.unmarked.message (marked c.args.request c.args.source)
    (sym c.in-Err.ensures.refused ∙ c.in-BadVia.is) c.in-Err.ensures.err)
    c.answer_to-in-BadVia.ensures

pub returns-in-Ok : goal.returns-in-Ok
returns-in-Ok g c =
    let m = c.args.request in
    let source = c.args.source in
    let lines = view_lines c.args.further.now in
    let hop = c.reply_hop.ensures ∙ c.what_was_read_tells_the_reply.ensures.marked m c.in-Ok.marked source c.args.top.now c.requires.top c.in-Ok.ensures.ok in
    IfOk-weaker c.answer_to.result _ _
    (λ datagram h. h ∙ ap (answer_to c.in-Ok.marked c.args.status lines) hop ∙ sym (ap (answer_made source c.args.status lines m) c.in-Ok.ensures.ok))
    c.answer_to.ensures
