-- By what the table of a call was closed: a call knows it as soon as the table is closed, and keeps it (RFC 3261 sections 16.7
-- steps 5 and 10 and 16.10).
use Rattle.std.specs.Prelude.{◌≡◌, ◌⊎◌, ◌≤◌, ℕ, nat_lt, true, false, List, Ok}
use Rattle.fork_model.specs.History.{Target}
use Rattle.fork_model.specs.Log.{opening_log, table_of}
use Rattle.fork_model.specs.Table.{Rules}
use Rattle.sip_build.specs.Requests.{reason_lines}
use Rattle.sip_text.specs.Text.{MessageText}
use Rattle.sip_uri.specs.declared.hop.Hop.{Hop}
use Rattle.sip_via.specs.Received.{marked}
use Rattle.call_model.specs.Begun.{begun}
use Rattle.call_model.specs.Built.{status_of}
use Rattle.call_model.specs.Call.{Call}
use Rattle.call_model.specs.Closing.{Closing, NotClosed, BySuccess, ByGlobalFailure, ByCancel, has_closed}
use Rattle.call_model.specs.OpenedRequest.{OpenedRequest, Destination, kind_of}
use Rattle.call_model.specs.Sound.{IsSound}
use Rattle.call_model.specs.Step.{IsPostedBy, Took, Turn, Step}
use Rattle.call_model.specs.Step as step
use Rattle.call_model.specs.Take.{Posted, ServerCancel}

-- it knows what closed the table exactly where the table is closed
abbrev pub KnowsClosing : Call → Type 0
KnowsClosing call = has_closed call.closing ≡ (table_of call.log).closed

-- by this turn a response of this status came to a branch, and was posted
abbrev pub PostsStatus : Turn → (status : ℕ) → Type 0
PostsStatus turn status = (n : ℕ) × (at : ℕ) × (m : MessageText) × IsPostedBy turn n at m × (status_of m ≡ status)

-- by this turn a 2xx was posted, or a 6xx of this status, or a CANCEL of the caller with these Reason lines
abbrev pub IsClosedBy : Turn → Closing → Type 0
IsClosedBy turn NotClosed = ⊥
IsClosedBy turn BySuccess = (status : ℕ) × PostsStatus turn status × (nat_lt status 200 ≡ false) × (nat_lt status 300 ≡ true)
IsClosedBy turn (ByGlobalFailure status) = PostsStatus turn status × (600 ≤ status)
IsClosedBy turn (ByCancel reasons) =
    (m : MessageText)
    × (source : Hop)
    × (cancel : MessageText)
    × (at : ℕ)
    × (turn.input ≡ step.Take ServerCancel m source)
    × (turn.output ≡ Took (Posted at))
    × (marked m source ≡ Ok cancel)
    × (reasons ≡ reason_lines cancel)

-- the table was open before this turn, and was closed by it
pub record ClosesTable (turn : Turn) (call new : Call) : Type 0 where
  pub open_before : (table_of call.log).closed ≡ false
  pub closed_after : (table_of new.log).closed ≡ true
  pub by : IsClosedBy turn new.closing

-- ---- laws

abbrev pub BegunKnowsClosing : Type 0
BegunKnowsClosing =
    (opened : OpenedRequest) (rules : Rules) (targets : List Target) (destinations : List Destination)
    → KnowsClosing (begun opened (opening_log (kind_of opened) rules targets) destinations)

abbrev pub StepsKnowClosing : Type 0
StepsKnowClosing =
    (turn : Turn) (call new : Call) → IsSound call → KnowsClosing call → Step turn.now call turn.input new turn.output → KnowsClosing new

-- a step leaves what closed the table, or closes it
abbrev pub ClosingStaysOrComes : Type 0
ClosingStaysOrComes =
    (turn : Turn) (call new : Call) → IsSound call → KnowsClosing call → Step turn.now call turn.input new turn.output
    → (new.closing ≡ call.closing) ⊎ ClosesTable turn call new
