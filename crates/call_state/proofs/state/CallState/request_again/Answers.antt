use Rattle.call_state.proofs.Common.{refl}
use Rattle.call_state.proofs.state.CallState.request_again.Goals as goal

pub returns : goal.returns
returns g c =
    (c.destination.result.now, c.part.result.now, c.destination.ensures, c.part.ensures, rw (c.hop.ensures, c.in_ok-from_slice.ensures.items, c.sent-sent.ensures) refl)
