use Rattle.call_state.proofs.Actions.{ack_sent}
use Rattle.call_state.proofs.state.CallState.send_ack.Goals as goal

pub returns : goal.returns
returns g c =
    ack_sent c.args.self.now c.remove_ack.new.self c.args.n 0 c.destination.result.now c.part-part.result.now c.part-part.ensures c.destination.ensures
    c.hop-to.result c.in-Some.bytes.items c.hop-to.ensures c.in-Some.ensures.ack c.in-Some.ensures.left
