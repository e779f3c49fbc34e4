use Rattle.call_state.proofs.Common.{◌≡◌, ◌∙◌, ap, subst, sym, true, false, Some, option_copied, machine_after, out_of, other_client, CancelTransaction, Branch, is_request, seen}
use Rattle.sip_txn.specs.declared.event.TxEvent.TheVariants as event
use Rattle.call_state.proofs.Actions.{cancel_ticked_sent, cancel_ticked_silent, same_cancelling, same_branch}
use Rattle.call_state.proofs.state.CallState.tick_cancel.Goals as goal

pub returns-then-not-is_request-clause-ok : goal.returns-then-not-is_request-clause-ok
returns-then-not-is_request-clause-ok g c =
    let is : c.part.result.now.cancelling ≡ Some c.in-Some.cancelling.now = sym c.cancelling.ensures ∙ ap option_copied c.in-Some.is in
    let q : is_request c.on_event-client.result.1.send ≡ false = let a = c.is_request.ensures in let b = c.if-not-is_request.true in cc in
    cancel_ticked_silent c.args.self.now c.cancel_on_branch.new.self c.args.n c.args.now c.destination-destination.result.now c.part.result.now c.part.ensures c.destination-destination.ensures
    c.in-Some.cancelling.now c.on_event-client.result.0 c.on_event-client.result.1 is c.on_event-client.ensures.after c.on_event-client.ensures.out c.cancel_on_branch.ensures q

pub returns-clause-ok : goal.returns-clause-ok
returns-clause-ok g c =
    let is : c.part.result.now.cancelling ≡ Some c.in-Some.cancelling.now = sym c.cancelling.ensures ∙ ap option_copied c.in-Some.is in
    let q : is_request c.on_event-client.result.1.send ≡ true = let a = c.is_request.ensures in let b = c.if-not-is_request.false in cc in
    let t = c.in_ok-datagram.ensures in
    let k = t.4 in
    let branch : c.part.result.now ≡ t.1 = same_branch _ c.part.result.now t.1 c.part.ensures t.3 in
    let same : c.in-Some.cancelling.now ≡ k.0 = same_cancelling _ c.in-Some.cancelling.now k.0 (sym (ap (λ (x : Branch). x.cancelling) branch) ∙ is) k.1 in
    let A : CancelTransaction → Type 0 = λ x. c.on_event-client.result.0 ≡ machine_after other_client event.Tick c.args.now x.client in
    let O : CancelTransaction → Type 0 = λ x. c.on_event-client.result.1 ≡ out_of other_client event.Tick c.args.now x.client in
    cancel_ticked_sent c.args.self.now c.cancel_on_branch-2.new.self c.args.n c.args.now t.0 t.1 t.3 t.2
    k.0 c.on_event-client.result.0 c.on_event-client.result.1 k.1 (subst A same c.on_event-client.ensures.after) (subst O same c.on_event-client.ensures.out) c.cancel_on_branch-2.ensures
    (seen c.in_ok-datagram.datagram) q k.2
