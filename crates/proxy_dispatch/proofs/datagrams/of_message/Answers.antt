use Rattle.proxy_dispatch.proofs.Common.{◌∙◌, None, sym, IfOk-weaker, seen_sent}
use Rattle.proxy_dispatch.proofs.Becoming.{message_so}
use Rattle.proxy_dispatch.proofs.datagrams.of_message.Goals as goal

pub returns-in-None : goal.returns-in-None
returns-in-None g c =
    let r = c.args.received in
    IfOk-weaker c.responded.result _ _
    (λ outcome h. (
      h.0,
      h.1,
      message_so (g.N.Admission.serving c.args.admission.now) c.args.setup.now r.message r.source r.now h.0 outcome.handled (seen_sent outcome.datagram) None
          (sym c.purpose_of.ensures ∙ c.in-None.is) h.2,
    ))
    c.responded.ensures
