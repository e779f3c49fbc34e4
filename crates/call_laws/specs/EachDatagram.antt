-- Each datagram that a run of a call sends is what its cause says, of that very run: what it answers came before, and what is
-- sent again was sent before (RFC 3261 sections 8.2.6, 9.1, 16.6, 16.7, 17.1.1.3 and 17.2).
use Rattle.std.specs.Prelude.{◌≡◌, ◌≢◌, ℕ, nat_lt, true, false, List, [], ◌∷◌, ◌++◌, map, None, Some, slice_get}
use Rattle.std.specs.List.{AllByRecursion}
use Rattle.fork_model.specs.Choice.{Choice}
use Rattle.fork_model.specs.Chosen.{IsChosen}
use Rattle.fork_model.specs.History.{Target}
use Rattle.fork_model.specs.Log.{table_of}
use Rattle.fork_model.specs.Table.{Rules}
use Rattle.sip_text.specs.Text.{MessageText, spelling}
use Rattle.sip_uri.specs.declared.hop.Hop.{Hop}
use Rattle.sip_build.specs.declared.responses.OwnStatus.TheVariants as own
use Rattle.sip_build.specs.Generated.{generated_of}
use Rattle.sip_build.specs.Upward.{upward_of}
use Rattle.call_model.specs.declared.cause.Cause.{Cause}
use Rattle.call_model.specs.declared.cause.Cause.TheVariants as cause
use Rattle.call_model.specs.Again.{Sends, is_repeated, last_after}
use Rattle.call_model.specs.Built.{Datagram, ack_to, generated, request_to, status_of}
use Rattle.call_model.specs.Call.{Call}
use Rattle.call_model.specs.Datagrams.{ToBranch}
use Rattle.call_model.specs.OpenedRequest.{OpenedRequest, Destination}
use Rattle.call_model.specs.Pump.{Send}
use Rattle.call_model.specs.Step.{Did, Output, Take, Turn}
use Rattle.call_model.specs.Take.{Client}
use Rattle.call_laws.specs.Answers.{AreGiven, Begins, IsFinalAnswer}
use Rattle.call_laws.specs.Came.{CameCancel, CamePosted}
use Rattle.call_laws.specs.Stages.{Leads, Stage, end_of, turn_of}
use Rattle.call_laws.specs.WhyCancelled.{IsCancelAfter}

abbrev pub turns_of : List Stage → List Turn
turns_of stages = map turn_of stages

-- ---- to a branch

abbrev pub SendsAsAck : Output → (n : ℕ) → Type 0
SendsAsAck output n = (to : Hop) × (bytes : List ℕ) × (output ≡ Did (Send (record { to = to; bytes = bytes; cause = cause.Ack n })))

-- the ACK for a failure that came to branch n by one of these stages; none was sent to the branch since
pub record IsAckAfter (call : Call) (stages : List Stage) (n : ℕ) (destination : Destination) (bytes : List ℕ) : Type 0 where
  pub before : List Stage
  pub stage : Stage
  pub later : List Stage
  pub one_of : stages ≡ before ++ stage ∷ later
  pub failure : MessageText
  pub came : (source : Hop) × (stage.turn.input ≡ Take (Client n) failure source)
  pub is_failure : nat_lt (status_of failure) 300 ≡ false
  pub none_since : AllByRecursion (λ (x : Stage). SendsAsAck x.turn.output n → ⊥) later
  pub made : bytes ≡ spelling (ack_to call.opened destination n failure)

-- ---- to the caller

-- the answer that these turns sent last, where this one was sent before them; nothing before the first
abbrev pub last_sent : (last : List ℕ) → List Turn → List ℕ
last_sent last [] = last
last_sent last (turn ∷ turns) = last_sent (last_after turn.output last) turns

-- what is sent to the caller after these turns
pub data IsAnswerAfter (turns : List Turn) (call : Call) (bytes : List ℕ) : Type 0 where
  -- the answer that was sent last, again
  Repeated : bytes ≡ last_sent [] turns → bytes ≢ [] → IsAnswerAfter turns call bytes
  -- the 100 of the proxy
  Trying : bytes ≡ spelling (generated call.opened own.Trying) → IsAnswerAfter turns call bytes
  -- a provisional response or a 2xx that came to a branch and was posted, as it goes up
  Passed : (n at : ℕ) (m : MessageText) → CamePosted turns n at m → nat_lt (status_of m) 300 ≡ true → bytes ≡ spelling (upward_of m None [])
      → IsAnswerAfter turns call bytes
  -- the final answer, by the choice of the fork
  Final : (choice : Choice) (answer : MessageText) → IsChosen (table_of call.log) (Some choice) → IsFinalAnswer turns call choice answer → bytes ≡ spelling answer
      → IsAnswerAfter turns call bytes

-- the 200 to a CANCEL that came by one of these turns, made of it as it was marked with its source, where that is answered
abbrev pub IsOkayAfter : List Turn → Datagram → Type 0
IsOkayAfter turns d = (cancel : MessageText) × CameCancel turns cancel d.to × (d.bytes ≡ spelling (generated_of cancel own.Okay []))

-- ---- by its cause, after these stages, which lead from this call

abbrev pub IsSentAfter : Call → List Stage → Datagram → Cause → Type 0
IsSentAfter call stages d (cause.Request n) = ToBranch (end_of call stages) n d (λ destination. d.bytes ≡ spelling (request_to call.opened destination n))
IsSentAfter call stages d (cause.Cancel n) = ToBranch (end_of call stages) n d (λ destination. IsCancelAfter call stages n destination d.bytes)
IsSentAfter call stages d (cause.Ack n) = ToBranch (end_of call stages) n d (λ destination. IsAckAfter call stages n destination d.bytes)
IsSentAfter call stages d cause.Answer = (d.to ≡ call.opened.caller) × IsAnswerAfter (turns_of stages) (end_of call stages) d.bytes
IsSentAfter call stages d cause.CancelOk = IsOkayAfter (turns_of stages) d

pub record IsRightAfter (call : Call) (stages : List Stage) (d : Datagram) : Type 0 where
  -- it is what its cause says
  pub is : IsSentAfter call stages d d.cause
  -- where the branch to a target goes is what the call began with
  pub targets : (n : ℕ) (destination : Destination) → slice_get call.destinations n ≡ Some destination → slice_get (end_of call stages).destinations n ≡ Some destination
  -- a request to a branch and its CANCEL are those that were sent before, byte for byte and to the same hop, where one was
  pub repeats : (earlier : Datagram) → Sends (turns_of stages) earlier → is_repeated d.cause ≡ true → earlier.cause ≡ d.cause → d ≡ earlier

-- ---- law

-- in every run of a call from its beginning, of each stage that sends a datagram
abbrev pub EachDatagramIsRight : Type 0
EachDatagramIsRight =
    (opened : OpenedRequest) (rules : Rules) (targets : List Target) (destinations : List Destination) (before : List Stage) (stage : Stage) (later : List Stage) (d : Datagram)
    → targets ≢ [] → AreGiven (before ++ stage ∷ later) → Leads (Begins opened rules targets destinations) (before ++ stage ∷ later)
    → stage.turn.output ≡ Did (Send d) → IsRightAfter (Begins opened rules targets destinations) before d
