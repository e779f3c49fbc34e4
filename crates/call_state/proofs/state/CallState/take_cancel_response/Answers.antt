use Rattle.call_state.proofs.Common.{◌≡◌, ◌∙◌, ap, sym, Some, option_copied, TxEvent, machine_after, other_client, response_event}
use Rattle.call_state.proofs.Failing.{cancel_goes_on}
use Rattle.call_state.proofs.state.CallState.take_cancel_response.Goals as goal

pub returns : goal.returns
returns g c = λ m source status_is.
    let is : c.part.result.now.cancelling ≡ Some c.in-Some.cancelling.now = sym c.cancelling.ensures ∙ ap option_copied c.in-Some.is in
    let client_is = c.on_event-client.ensures.after ∙ ap (λ (e : TxEvent). machine_after other_client e c.args.now c.in-Some.cancelling.now.client) (c.response_event.ensures ∙ ap response_event status_is) in (
      c.part.result.now,
      c.in-Some.cancelling.now,
      c.part.ensures,
      is,
      cancel_goes_on c.args.self.now c.args.n c.args.now c.part.result.now c.part.ensures c.cancel_on_branch.new.self _ c.in-Some.cancelling.now c.on_event-client.result.0 is client_is c.cancel_on_branch.ensures,
    )
