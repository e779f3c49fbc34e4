use Rattle.call_state.proofs.Common.{◌≡◌, subst, IfOk, option_map, spelling, ack_to, Call, ack_made}
use Rattle.call_state.proofs.state.CallState.ack_if.Goals as goal

pub returns : goal.returns
returns g c =
    let P : Call → Type 0 = λ x. IfOk c.ack_if.result (λ ack. option_map (λ v. v.items) ack ≡ ack_made c.args.send (spelling (ack_to x.opened c.args.destination.now c.args.n c.args.response.now))) in
    subst P c.self.view_is c.ack_if.ensures
