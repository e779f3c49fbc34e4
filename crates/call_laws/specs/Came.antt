-- What came to a call by these turns: a response to a branch, with the position at which it was posted, and a CANCEL (RFC 3261
-- sections 9.2 and 16.7).
use Rattle.std.specs.Prelude.{◌≡◌, ℕ, List, Some, Ok, slice_get}
use Rattle.sip_text.specs.Text.{MessageText}
use Rattle.sip_uri.specs.declared.hop.Hop.{Hop}
use Rattle.sip_via.specs.Received.{marked, reply_of}
use Rattle.sip_via.specs.TopVia.{top_value}
use Rattle.sip_via.specs.ViaParts.{via_of}
use Rattle.call_model.specs.Step.{IsPostedBy, Take, Turn}
use Rattle.call_model.specs.Take.{Client, ServerCancel}

-- one of these turns
abbrev pub IsTurnOf : List Turn → Turn → Type 0
IsTurnOf turns turn = (place : ℕ) × (slice_get turns place ≡ Some turn)

-- by one of these turns this response came to branch n
abbrev pub Came : List Turn → (n : ℕ) → MessageText → Type 0
Came turns n m = (turn : Turn) × IsTurnOf turns turn × (source : Hop) × (turn.input ≡ Take (Client n) m source)

-- and it was posted as the event at this position
abbrev pub CamePosted : List Turn → (n at : ℕ) → MessageText → Type 0
CamePosted turns n at m = (turn : Turn) × IsTurnOf turns turn × IsPostedBy turn n at m

-- by one of them a CANCEL came, which was so marked with its source, and this is where it is answered (sections 18.2.1 and
-- 18.2.2)
abbrev pub CameCancel : List Turn → (cancel : MessageText) → (to : Hop) → Type 0
CameCancel turns cancel to =
    (turn : Turn)
    × IsTurnOf turns turn
    × (m : MessageText)
    × (source : Hop)
    × (turn.input ≡ Take ServerCancel m source)
    × (marked m source ≡ Ok cancel)
    × (to ≡ reply_of (via_of (top_value cancel)) source)
