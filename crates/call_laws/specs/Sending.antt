-- What a call sends, of the call as it is then: each datagram is what its cause says, and goes where that says (RFC 3261 sections
-- 8.2.6, 9.1, 16.6, 16.7, 17.1.1.3 and 17.2).
use Rattle.std.specs.Prelude.{◌≡◌, ◌≢◌, ◌⊎◌, ℕ, List, [], ◌∷◌, Some}
use Rattle.sip_text.specs.Text.{MessageText, spelling}
use Rattle.sip_build.specs.declared.responses.OwnStatus.TheVariants as own
use Rattle.sip_build.specs.Generated.{generated_of}
use Rattle.call_model.specs.declared.cause.Cause.{Cause}
use Rattle.call_model.specs.declared.cause.Cause.TheVariants as cause
use Rattle.call_model.specs.Built.{Datagram, answer_of, request_to}
use Rattle.call_model.specs.Call.{Call}
use Rattle.call_model.specs.Datagrams.{IsCancel, ToBranch}
use Rattle.call_model.specs.Pump.{Pumped, Send, Idle}
use Rattle.call_model.specs.Pump as pump
use Rattle.call_model.specs.Server.{Owed, CancelOk}
use Rattle.call_model.specs.Step as step
use Rattle.call_model.specs.Step.{Step, Turn}
use Rattle.fork_model.specs.Choice.{Choice}
use Rattle.call_laws.specs.Came.{CameCancel}
use Rattle.call_laws.specs.Origins.{AnswersFailure}
use Rattle.call_laws.specs.Right.{StandsAfter}

-- what was sent to the caller last, again; or the first answer that is owed: the generated 100, a response of a branch as it
-- goes up, the final answer
abbrev pub IsAnswerOf : Call → List ℕ → Type 0
IsAnswerOf call bytes =
    ((bytes ≡ call.server.last) × (bytes ≢ []))
    ⊎ ((owed : Owed) × (rest : List Owed) × (m : MessageText) × (call.server.owed ≡ owed ∷ rest) × (answer_of call owed ≡ Some m) × (bytes ≡ spelling m))

-- the 200 to a CANCEL that came, made of it as it was marked with its source, goes where that CANCEL is answered
abbrev pub IsOkayTo : List Turn → Call → Datagram → Type 0
IsOkayTo turns call d =
    (cancel : MessageText)
    × (rest : List Owed)
    × (call.server.owed ≡ CancelOk cancel d.to ∷ rest)
    × CameCancel turns cancel d.to
    × (d.bytes ≡ spelling (generated_of cancel own.Okay []))

-- after these turns, by its cause: the request and the CANCEL of a branch go to its hop, and so does its ACK, which answers a
-- failure that came from the branch
abbrev pub IsSentFor : List Turn → Call → Datagram → Cause → Type 0
IsSentFor turns call d (cause.Request n) = ToBranch call n d (λ destination. d.bytes ≡ spelling (request_to call.opened destination n))
IsSentFor turns call d (cause.Cancel n) = ToBranch call n d (λ destination. IsCancel call n destination d.bytes)
IsSentFor turns call d (cause.Ack n) = ToBranch call n d (λ destination. AnswersFailure turns call n d.bytes)
IsSentFor turns call d cause.Answer = (d.to ≡ call.opened.caller) × IsAnswerOf call d.bytes
IsSentFor turns call d cause.CancelOk = IsOkayTo turns call d

abbrev pub IsSentRight : List Turn → Call → Pumped → Type 0
IsSentRight turns call (Send d) = IsSentFor turns call d d.cause
IsSentRight turns call pump.Did = Unit {0}
IsSentRight turns call Idle = Unit {0}

-- there are such turns
abbrev pub Sends : Call → Pumped → Type 0
Sends call pumped = (turns : List Turn) × IsSentRight turns call pumped

-- ---- law

abbrev pub WhatIsSentIsRight : Type 0
WhatIsSentIsRight =
    (turns : List Turn) (handed : List Choice) (now : ℕ) (call new : Call) (pumped : Pumped) → StandsAfter turns handed call
    → Step now call step.Pump new (step.Did pumped) → IsSentRight turns call pumped
