-- Where that comes from what a call keeps to be sent: each was made of a message that came (RFC 3261 sections 9.2, 16.7 and
-- 17.1.1.3).
use Rattle.std.specs.Prelude.{◌≡◌, ℕ, nat_lt, false, true, List, Some, slice_get}
use Rattle.std.specs.List.{AllByRecursion}
use Rattle.fork_model.specs.Chosen.{HasFirst}
use Rattle.fork_model.specs.Log.{table_of}
use Rattle.fork_model.specs.Sources.{HasStored}
use Rattle.fork_model.specs.Table.{StoredAnswer}
use Rattle.sip_text.specs.Text.{MessageText, spelling}
use Rattle.call_model.specs.Built.{ack_to, answer_in, status_of}
use Rattle.call_model.specs.Call.{Call, nth_branch}
use Rattle.call_model.specs.OpenedRequest.{Destination}
use Rattle.call_model.specs.Branch.{Branch}
use Rattle.call_model.specs.Server as server
use Rattle.call_model.specs.Step.{Turn}
use Rattle.call_laws.specs.Came.{Came, CameCancel, CamePosted}

-- ---- what is kept

-- these bytes are the ACK for a failure that came to branch n: it has the To of that response (section 17.1.1.3)
abbrev pub AnswersFailure : List Turn → Call → (n : ℕ) → List ℕ → Type 0
AnswersFailure turns call n bytes =
    (m : MessageText)
    × Came turns n m
    × (nat_lt (status_of m) 300 ≡ false)
    × (destination : Destination)
    × (slice_get call.destinations n ≡ Some destination)
    × (bytes ≡ spelling (ack_to call.opened destination n m))

abbrev pub OwesAcks : List Turn → Call → Type 0
OwesAcks turns call = (n : ℕ) (branch : Branch) (bytes : List ℕ) → nth_branch call n ≡ Some branch → branch.ack ≡ Some bytes → AnswersFailure turns call n bytes

-- each 200 that is owed to a CANCEL is owed to one that came
abbrev pub IsOkayOf : List Turn → server.Owed → Type 0
IsOkayOf turns server.Trying = Unit {0}
IsOkayOf turns (server.Passed response) = Unit {0}
IsOkayOf turns (server.Final choice) = Unit {0}
IsOkayOf turns server.Again = Unit {0}
IsOkayOf turns (server.CancelOk cancel to) = CameCancel turns cancel to

abbrev pub OwesOkays : List Turn → Call → Type 0
OwesOkays turns call = AllByRecursion (IsOkayOf turns) call.server.owed

-- each failure that a branch keeps, to go up as the final answer, came to that branch
abbrev pub KeepsWhatCame : List Turn → Call → Type 0
KeepsWhatCame turns call =
    (n : ℕ) (branch : Branch) (m : MessageText) → nth_branch call n ≡ Some branch → branch.answer ≡ Some m → Came turns n m × (nat_lt (status_of m) 300 ≡ false)

-- and that of the branch with the best stored answer, where that came, was posted at the arrival of this answer
abbrev pub KeepsPosted : List Turn → Call → Type 0
KeepsPosted turns call =
    (n : ℕ) (stored : StoredAnswer) → HasStored (table_of call.log) n stored → stored.received ≡ true → HasFirst (table_of call.log) n
    → (m : MessageText) × (answer_in (nth_branch call n) ≡ Some m) × CamePosted turns n stored.arrival m

-- all of them
pub record ComesFrom (turns : List Turn) (call : Call) : Type 0 where
  pub acks : OwesAcks turns call
  pub okays : OwesOkays turns call
  pub answers : KeepsWhatCame turns call
  pub posted : KeepsPosted turns call
