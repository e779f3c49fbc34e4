use Rattle.proxy_dispatch.proofs.Common.{◌∙◌, [], ap, seen_sent}
use Rattle.proxy_dispatch.specs.Sent.{answer_to}
use Rattle.call_model.specs.SeenDatagram.{seen}
use Rattle.proxy_dispatch.proofs.Rejecting.{rejected_so, told_back}
use Rattle.proxy_dispatch.proofs.answers.rejected.Goals as goal

pub returns : goal.returns
returns g c = λ setup m is h.
    rejected_so c.stripping_keeps_answers.ensures c.stripping_keeps_the_rest.ensures.others c.args.source c.rejection_status-status.result setup m c.args.fault c.args.request
    (seen c.in_ok-datagram.datagram) c.code.result c.sends.result.handled (seen_sent c.sends.result.datagram) h c.rejection_status-status.ensures c.code.ensures
    c.in_ok-datagram.ensures.plain
    (λ other. c.in_ok-datagram.ensures.marked other
    ∙ ap (answer_to c.args.request c.rejection_status-status.result [])
    (told_back c.what_was_read_tells_the_reply.ensures.marked c.what_was_read_tells_the_reply.ensures.prepared setup m c.args.source c.args.top.now is c.args.fault c.args.request h other))
    c.sends.ensures.handled (ap seen_sent c.sends.ensures.sends)
