-- The steps of a call: what it is given, what it answers, and how it goes on (RFC 3261 sections 16 and 17). Which
-- transaction a message belongs to is said by who gives it.
use Rattle.std.specs.Prelude.{◌≡◌, ℕ, List, [], ◌∷◌}
use Rattle.sip_text.specs.Text.{MessageText}
use Rattle.sip_uri.specs.declared.hop.Hop.{Hop}
use Rattle.call_model.specs.declared.cause.Cause.{Cause}
use Rattle.call_model.specs.Call.{Call}
use Rattle.call_model.specs.Take.{Client, Posted, MatchedTransaction, Taken, TakesAs}
use Rattle.call_model.specs.Pump.{Pumped, Pumps}
use Rattle.call_model.specs.Failed.{Fails}

-- a message from this hop for this transaction; the leave to do one thing; a datagram that could not be sent
pub data Input : Type 0 where
  Take : MatchedTransaction → MessageText → Hop → Input
  Pump : Input
  Failed : Cause → Input

pub data Output : Type 0 where
  Took : Taken → Output
  Did : Pumped → Output
  Told : Output

-- at this moment the call may answer so and go on so
abbrev pub Step : ℕ → Call → Input → Call → Output → Type 0
Step now call (Take to m source) new (Took taken) = TakesAs call now m source to taken new
Step now call Pump new (Did pumped) = Pumps call now pumped new
Step now call (Failed cause) new Told = Fails call now cause new
Step now call input new output = ⊥

-- what was given at which moment, and what was answered
pub record Turn : Type 0 where
  pub now : ℕ
  pub input : Input
  pub output : Output

-- by this turn this response came to branch n, and was posted as the event at this position
abbrev pub IsPostedBy : Turn → (n at : ℕ) → MessageText → Type 0
IsPostedBy turn n at m = (source : Hop) × (turn.input ≡ Take (Client n) m source) × (turn.output ≡ Took (Posted at))

-- one step after another
abbrev pub Run : Call → List Turn → Call → Type 0
Run call [] new = new ≡ call
Run call (turn ∷ turns) new = (mid : Call) × Step turn.now call turn.input mid turn.output × Run mid turns new
