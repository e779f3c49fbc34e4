use Rattle.call_state.proofs.Common.{◌≡◌, ◌∙◌, ap, refl, sym, Some, option_copied}
use Rattle.call_state.proofs.state.CallState.cancel_again.Goals as goal

pub returns : goal.returns
returns g c =
    let is : c.part.result.now.cancelling ≡ Some c.in-Some.cancelling.now = sym c.cancelling.ensures ∙ ap option_copied c.in-Some.is in (
      c.destination.result.now,
      c.part.result.now,
      c.destination.ensures,
      c.part.ensures,
      (c.in-Some.cancelling.now, is, rw (c.hop.ensures, c.in_ok-from_slice.ensures.items, c.sent.ensures) refl),
    )
