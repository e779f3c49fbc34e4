-- What a call answers its caller, over whole runs: what came to be owed is paid once, in order, and the final answer is the one
-- that the fork chose (RFC 3261 sections 16.7 and 17.2).
use Rattle.std.specs.Prelude.{◌≡◌, ◌≢◌, ◌⊎◌, ℕ, Bool, true, false, List, [], ◌∷◌, ◌++◌, filter, map, Some, None, slice_get}
use Rattle.std.specs.List.{AllByRecursion}
use Rattle.fork_model.specs.Challenges.{challenge_list}
use Rattle.fork_model.specs.Choice.{Choice, Best, Only503, NoAnswer408}
use Rattle.fork_model.specs.Chosen.{IsChosen}
use Rattle.fork_model.specs.History.{Target}
use Rattle.fork_model.specs.Log.{events_of, opening_log, table_of}
use Rattle.fork_model.specs.Sources.{HasStored}
use Rattle.fork_model.specs.Table.{Rules, StoredAnswer, is_finished, is_succeeded}
use Rattle.sip_text.specs.Text.{MessageText, spelling}
use Rattle.sip_build.specs.declared.responses.OwnStatus.TheVariants as own
use Rattle.sip_build.specs.Generated.{generated_of}
use Rattle.sip_build.specs.Upward.{upward_of}
use Rattle.call_model.specs.declared.cause.Cause.TheVariants as cause
use Rattle.call_model.specs.Begun.{begun}
use Rattle.call_model.specs.Built.{generated, kept_of, status_of}
use Rattle.call_model.specs.Call.{Call, rows_of}
use Rattle.call_model.specs.OpenedRequest.{OpenedRequest, Destination, is_invite, kind_of}
use Rattle.call_model.specs.Pump.{Send}
use Rattle.call_model.specs.Pump as pump
use Rattle.call_model.specs.Response.{event_by}
use Rattle.call_model.specs.Server as server
use Rattle.call_model.specs.Server.{Owed, is_over}
use Rattle.call_model.specs.Sound.{IsGiven}
use Rattle.call_model.specs.Step.{Did, Turn}
use Rattle.call_laws.specs.Finals.{CouldNotSend, is_success, takes}
use Rattle.call_laws.specs.Came.{CameCancel, CamePosted}
use Rattle.call_laws.specs.Stages.{Leads, Payment, Stage, end_of, owed_of, owed_since, payments}

-- ---- the final answer

-- of branch n, which has this stored answer: where that came, the very response that came from the branch and was posted as the
-- event that stored it, as it goes up, with the contacts left and the challenges that are due; where it was assumed, a generated
-- 408 (section 16.7 steps 4 to 9)
abbrev pub IsBestAnswer : List Turn → Call → (n : ℕ) → StoredAnswer → MessageText → Type 0
IsBestAnswer turns call n stored answer =
    ((stored.received ≡ true)
    × (response : MessageText)
    × CamePosted turns n stored.arrival response
    × (slice_get (events_of call.log.history) stored.arrival ≡ Some (event_by call.opened.tried n (status_of response) response))
    × (answer ≡ upward_of response (kept_of stored) (challenge_list (rows_of call) (Best n))))
    ⊎ ((stored.received ≡ false) × (answer ≡ generated call.opened own.RequestTimeout))

-- by the choice of the fork
abbrev pub IsFinalAnswer : List Turn → Call → Choice → MessageText → Type 0
IsFinalAnswer turns call (Best n) answer = (stored : StoredAnswer) × HasStored (table_of call.log) n stored × IsBestAnswer turns call n stored answer
IsFinalAnswer turns call (Only503 n) answer = answer ≡ generated call.opened own.ServerInternalError
IsFinalAnswer turns call NoAnswer408 answer = answer ≡ generated call.opened own.RequestTimeout

-- ---- what is paid

-- the turn sends this answer to the caller
abbrev pub Sends : Payment → MessageText → Type 0
Sends payment answer = payment.output ≡ Did (Send (record { to = payment.call.opened.caller; bytes = spelling answer; cause = cause.Answer }))

-- or nothing is sent
abbrev pub Drops : Payment → Type 0
Drops payment = payment.output ≡ Did pump.Did

-- an answer of this status is sent, or dropped where the caller's transaction takes none of this status any more: a final answer
-- was handed to it before, or it has ended
abbrev pub Gives : Payment → MessageText → Type 0
Gives payment answer = Sends payment answer ⊎ (Drops payment × (takes payment.call.server.machine (status_of answer) ≡ false))

-- a response of a branch is sent as it came, with its own bytes behind the proxy's Via value, or dropped so; a 2xx to an INVITE is
-- dropped only once the caller's transaction has ended
abbrev pub GivesPassed : Payment → MessageText → Type 0
GivesPassed payment response =
    Sends payment (upward_of response None [])
    ⊎ (Drops payment
    × (takes payment.call.server.machine (status_of response) ≡ false)
    × (is_invite payment.call.opened ≡ true → is_success (status_of response) ≡ true → is_over payment.call.server.machine))

-- the final answer is sent; that to a request other than INVITE is dropped where an answer before it could not be sent
abbrev pub GivesFinal : Payment → Choice → Type 0
GivesFinal payment choice =
    (answer : MessageText)
    × IsFinalAnswer payment.before payment.call choice answer
    × (Sends payment answer ⊎ (Drops payment × (is_invite payment.call.opened ≡ false) × CouldNotSend payment.before))

-- what was owed first is paid so: a 100 is the generated one, a response of a branch goes up as it came; the last answer again is
-- what was sent last; the 200 to a CANCEL is made of that CANCEL as it was marked, and goes where that is answered
abbrev pub IsPaidAs : Payment → Owed → Type 0
IsPaidAs payment server.Trying = Gives payment (generated payment.call.opened own.Trying)
IsPaidAs payment (server.Passed response) = GivesPassed payment response
IsPaidAs payment (server.Final choice) = GivesFinal payment choice
IsPaidAs payment server.Again =
    payment.output ≡ Did (Send (record { to = payment.call.opened.caller; bytes = payment.call.server.last; cause = cause.Answer }))
IsPaidAs payment (server.CancelOk cancel to) =
    CameCancel payment.before cancel to
    × (payment.output ≡ Did (Send (record { to = to; bytes = spelling (generated_of cancel own.Okay []); cause = cause.CancelOk })))

abbrev pub IsPaidRight : Payment → Type 0
IsPaidRight payment = IsPaidAs payment payment.owed

-- ---- laws

-- each input of a run is given as it may be
abbrev pub AreGiven : List Stage → Type 0
AreGiven stages = AllByRecursion (λ (stage : Stage). IsGiven stage.turn.input) stages

abbrev pub Begins : OpenedRequest → Rules → List Target → List Destination → Call
Begins opened rules targets destinations = begun opened (opening_log (kind_of opened) rules targets) destinations

-- what came to be owed is paid once, in the order in which it came to be owed, or is still owed; and each payment is right
pub record PaysInOrder (call : Call) (stages : List Stage) : Type 0 where
  pub order : call.server.owed ++ owed_since call stages ≡ map owed_of (payments [] call stages) ++ (end_of call stages).server.owed
  pub each : AllByRecursion IsPaidRight (payments [] call stages)

abbrev pub CallsPayInOrder : Type 0
CallsPayInOrder =
    (opened : OpenedRequest) (rules : Rules) (targets : List Target) (destinations : List Destination) (stages : List Stage) → targets ≢ [] → AreGiven stages
    → Leads (Begins opened rules targets destinations) stages → PaysInOrder (Begins opened rules targets destinations) stages

abbrev pub is_final : Owed → Bool
is_final server.Trying = false
is_final (server.Passed response) = false
is_final (server.Final choice) = true
is_final server.Again = false
is_final (server.CancelOk cancel to) = false

abbrev pub is_final_payment : Payment → Bool
is_final_payment payment = is_final payment.owed

-- one payment alone is that of a final answer, and it is the choice of the fork
pub record AnswersOnce (call : Call) (stages : List Stage) : Type 0 where
  pub payment : Payment
  pub choice : Choice
  pub alone : filter is_final_payment (payments [] call stages) ≡ payment ∷ []
  pub is : payment.owed ≡ server.Final choice
  pub chosen : IsChosen (table_of (end_of call stages).log) (Some choice)
  pub gives : GivesFinal payment choice

-- once every branch has ended and none with a 2xx, and nothing is owed any more
abbrev pub OneFinalAnswerGoesUp : Type 0
OneFinalAnswerGoesUp =
    (opened : OpenedRequest) (rules : Rules) (targets : List Target) (destinations : List Destination) (stages : List Stage) → targets ≢ [] → AreGiven stages
    → Leads (Begins opened rules targets destinations) stages
    → is_finished (rows_of (end_of (Begins opened rules targets destinations) stages)) ≡ true
    → is_succeeded (rows_of (end_of (Begins opened rules targets destinations) stages)) ≡ false
    → (end_of (Begins opened rules targets destinations) stages).server.owed ≡ []
    → AnswersOnce (Begins opened rules targets destinations) stages
