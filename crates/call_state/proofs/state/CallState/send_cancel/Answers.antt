use Rattle.call_state.proofs.Common.{◌≡◌, ◌∙◌, ap, Destination}
use Rattle.call_state.proofs.Actions.{cancel_sent, same_destination}
use Rattle.call_state.proofs.state.CallState.send_cancel.Goals as goal

pub returns-clause-ok : goal.returns-clause-ok
returns-clause-ok g c =
    let same : c.destination.result.now ≡ c.destination-2.result.now = same_destination _ c.destination.result.now c.destination-2.result.now c.destination.ensures c.destination-2.ensures in
    cancel_sent c.args.self.now c.cancel_branch.new.self c.args.n c.args.now c.destination-2.result.now c.part-part.result.now c.part-part.ensures c.destination-2.ensures
    c.hop-to.result c.in_ok-bytes.bytes.items c.in_ok-sent.sent.items c.start.result (c.hop-to.ensures ∙ ap (λ (w : Destination). w.hop) same)
    (c.in_ok-bytes.ensures.items ∙ c.deref.ensures.value) c.in_ok-sent.ensures c.start.ensures c.cancel_branch.ensures
