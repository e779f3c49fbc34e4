use Rattle.proxy_dispatch.proofs.Common.{◌∙◌, Err, MessageText, Ok, refl, subst, sym, IfOk-weaker, seen_sent}
use Rattle.sip_via.specs.ReadTop.{IsTopOf}
use Rattle.sip_via.specs.Received.{marked}
use Rattle.proxy_dispatch.proofs.Becoming.{marked_at, unmarked_at}
use Rattle.proxy_dispatch.proofs.Outcomes.{by_both}
use Rattle.proxy_dispatch.proofs.registers.asked.Goals as goal

pub returns-in-Ok : goal.returns-in-Ok
returns-in-Ok g c =
    let serving = g.N.Admission.serving c.args.admission.now in
    let r = c.args.received in
    IfOk-weaker c.of_registrar.result _ _
    (λ outcome h. marked_at serving c.args.setup.now r.message r.source r.now outcome.handled (seen_sent outcome.datagram) (marked r.message r.source) (Ok c.in-Ok.request) c.in-Ok.ensures.ok h)
    (c.of_registrar.ensures r.message c.in-Ok.ensures.ok)

pub returns-in-BadVia : goal.returns-in-BadVia
returns-in-BadVia g c =
    let serving = g.N.Admission.serving c.args.admission.now in
    let r = c.args.received in
    by_both c.answered.result _ _ _
    (λ outcome handled sent. unmarked_at serving c.args.setup.now r.message c.in-Err.unmarked.message r.source r.now outcome.handled (seen_sent outcome.datagram) (marked r.message r.source)
    (sym c.in-Err.ensures.refused ∙ c.in-BadVia.is) c.in-Err.ensures.err handled sent)
    c.answered.ensures.handled c.answered.ensures.sent

pub of_registrar-requires : goal.of_registrar-requires
of_registrar-requires g c =
    let r = c.args.received in
    c.reply_hop-to.ensures ∙ c.what_was_read_tells_the_reply.ensures.marked r.message c.in-Ok.request r.source r.top c.requires c.in-Ok.ensures.ok

pub answered-requires : goal.answered-requires
answered-requires g c =
    let r = c.args.received in
    let P : MessageText → Type 0 = λ m. IsTopOf m r.source r.top in
    subst P (sym c.in-Err.ensures.err) c.requires
