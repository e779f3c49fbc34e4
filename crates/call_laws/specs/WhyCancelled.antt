-- Why a branch is sent its CANCEL, over a run: what closed the table says so, where timer C has not fired for the branch
-- (RFC 3261 sections 16.7 step 10, 16.8 and 16.10, RFC 3326).
use Rattle.std.specs.Prelude.{◌≡◌, ℕ, true, false, List, [], ◌∷◌, ◌++◌, Some, slice_get}
use Rattle.fork_model.specs.Event.{TimerC}
use Rattle.fork_model.specs.Log.{events_of, table_of}
use Rattle.sip_text.specs.Text.{HeaderText, spelling}
use Rattle.call_model.specs.Built.{cancel_to}
use Rattle.call_model.specs.Call.{Call}
use Rattle.call_model.specs.ClosedBy.{IsClosedBy}
use Rattle.call_model.specs.Closing.{Closing, reasons_by}
use Rattle.call_model.specs.OpenedRequest.{Destination}
use Rattle.call_model.specs.Parts.{SendsAsCancel}
use Rattle.call_laws.specs.Stages.{Stage, end_of}

-- timer C of branch n has fired: the event stands in the log
abbrev pub TimerCFired : Call → (n : ℕ) → Type 0
TimerCFired call n = (at : ℕ) × (slice_get (events_of call.log.history) at ≡ Some (TimerC n))

-- one of these stages, which lead from this call, closed the table, by this
pub record WasClosedBy (call : Call) (stages : List Stage) (closing : Closing) : Type 0 where
  pub before : List Stage
  pub stage : Stage
  pub later : List Stage
  pub one_of : stages ≡ before ++ stage ∷ later
  pub open_before : (table_of (end_of call before).log).closed ≡ false
  pub closed_after : (table_of stage.call.log).closed ≡ true
  pub by : IsClosedBy stage.turn closing

-- what the Reason lines of the CANCEL of branch n say that is made after these stages
pub data SaysWhy (call : Call) (stages : List Stage) (n : ℕ) (reasons : List HeaderText) : Type 0 where
  -- nothing, where the call gives no reasons
  GivesNone : call.opened.reasons ≡ false → reasons ≡ [] → SaysWhy call stages n reasons
  -- nothing, where timer C has fired for the branch
  TimerFired : TimerCFired (end_of call stages) n → reasons ≡ [] → SaysWhy call stages n reasons
  -- what closed the table, where it has not
  TableClosed : (closing : Closing) → (TimerCFired (end_of call stages) n → ⊥) → WasClosedBy call stages closing → reasons ≡ reasons_by closing
      → SaysWhy call stages n reasons

-- these bytes are the CANCEL of branch n that is made after these stages
pub record IsMadeAfter (call : Call) (stages : List Stage) (n : ℕ) (destination : Destination) (bytes : List ℕ) : Type 0 where
  pub reasons : List HeaderText
  pub why : SaysWhy call stages n reasons
  pub made : bytes ≡ spelling (cancel_to call.opened destination n reasons)

-- one of these stages sent it, as it was made then
pub record WasSentBefore (call : Call) (stages : List Stage) (n : ℕ) (destination : Destination) (bytes : List ℕ) : Type 0 where
  pub before : List Stage
  pub stage : Stage
  pub later : List Stage
  pub one_of : stages ≡ before ++ stage ∷ later
  pub sends : SendsAsCancel stage.turn.output n bytes
  pub made : IsMadeAfter call before n destination bytes

-- what is sent as the CANCEL of branch n after these stages: it is made now, or was sent before
pub data IsCancelAfter (call : Call) (stages : List Stage) (n : ℕ) (destination : Destination) (bytes : List ℕ) : Type 0 where
  MadeNow : IsMadeAfter call stages n destination bytes → IsCancelAfter call stages n destination bytes
  SentAgain : WasSentBefore call stages n destination bytes → IsCancelAfter call stages n destination bytes
