-- What the first answer that is owed becomes, in memory.
use Rattle.std.specs.Prelude.{◌≡◌, List, [], ◌∷◌, Option, Some, None}
use Rattle.sip_text.specs.Text.{MessageText, spelling}
use Rattle.sip_uri.specs.declared.hop.Hop.{Hop}
use Rattle.sip_build.specs.declared.responses.OwnStatus.TheVariants.{Okay}
use Rattle.sip_build.specs.Generated.{generated_of}
use Rattle.call_state.specs.declared.answers.BuiltResponse.{BuiltResponse}
use Rattle.call_state.specs.declared.answers.BuiltResponse.TheVariants as built_response
use Rattle.call_model.specs.declared.cause.Cause.TheVariants as cause
use Rattle.call_model.specs.Built.{answer_of, status_of}
use Rattle.call_model.specs.Call.{Call}
use Rattle.call_state.specs.inner.CallStateInside.{answer_to}
use Rattle.call_model.specs.SeenDatagram.{seen}
use Rattle.call_model.specs.Server.{Owed, Again, CancelOk}

-- the answer m, by its status and its text
abbrev pub IsText : {A : Type 0} → MessageText → BuiltResponse A → Type 0
IsText m (built_response.Sent d) = ⊥
IsText m (built_response.Answer status text) = (status ≡ status_of m) × (text.items ≡ spelling m)

-- the last answer again
abbrev pub IsPaidAgain : {A : Type 0} → Call → BuiltResponse A → Type 0
IsPaidAgain call (built_response.Sent d) = seen d ≡ answer_to call.opened call.server.last
IsPaidAgain call (built_response.Answer status text) = ⊥

-- the 200 to this CANCEL
abbrev pub IsPaidOk : {A : Type 0} → MessageText → Hop → BuiltResponse A → Type 0
IsPaidOk cancel to (built_response.Sent d) = seen d ≡ record { to = to; bytes = spelling (generated_of cancel Okay []); cause = cause.CancelOk }
IsPaidOk cancel to (built_response.Answer status text) = ⊥

abbrev pub IsAnswered : {A : Type 0} → Option MessageText → BuiltResponse A → Type 0
IsAnswered None paid = ⊥
IsAnswered (Some m) paid = IsText m paid

-- by the first of those that are owed
abbrev pub IsPaid : {A : Type 0} → Call → List Owed → BuiltResponse A → Type 0
IsPaid call [] paid = ⊥
IsPaid call (Again ∷ rest) paid = IsPaidAgain call paid
IsPaid call (CancelOk cancel to ∷ rest) paid = IsPaidOk cancel to paid
IsPaid call (owed ∷ rest) paid = IsAnswered (answer_of call owed) paid
