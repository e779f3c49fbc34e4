-- What a call has to do, and from when on (RFC 3261 sections 16.6 to 16.8 and 17).
use Rattle.std.specs.Prelude.{◌≡◌, ◌≤◌, ℕ, ◌&&◌, Bool, true, false, List, [], ◌∷◌, Option, Some, None}
use Rattle.fork_model.specs.Table.{is_cancelled, is_finished}
use Rattle.sip_txn.specs.Timers.{is_due, least}
use Rattle.sip_txn.specs.declared.other_client.OtherClientState.TheVariants.{Terminated}
use Rattle.call_model.specs.Client as client
use Rattle.call_model.specs.Branch.{Branch, CancelTransaction}
use Rattle.call_model.specs.Server as server
use Rattle.call_model.specs.Call.{Call, rows_of, row_passes, nth_branch, owes_request, owes_cancel, owes_ack, runs_timer_c, give_up_of}

-- what a call may have to do; the number names a branch
pub data Action : Type 0 where
  SendRequest : (n : ℕ) → Action
  SendCancel : (n : ℕ) → Action
  SendAck : (n : ℕ) → Action
  -- the first answer that is owed
  SendAnswer : Action
  -- a tick of a transaction: the caller's, a branch's, that of a branch's CANCEL
  TickServer : Action
  TickClient : (n : ℕ) → Action
  TickCancel : (n : ℕ) → Action
  -- timer C, and the end of the wait for a cancelled branch
  FireTimerC : (n : ℕ) → Action
  GiveUp : (n : ℕ) → Action

abbrev pub client_at : Option Branch → Option ℕ
client_at None = None
client_at (Some branch) = client.client_due branch.client

abbrev pub cancel_client_due : Option CancelTransaction → Option ℕ
cancel_client_due None = None
cancel_client_due (Some cancelling) = least cancelling.client.timers

abbrev pub cancel_at : Option Branch → Option ℕ
cancel_at None = None
cancel_at (Some branch) = cancel_client_due branch.cancelling

abbrev pub timer_c_at : Option Branch → Option ℕ
timer_c_at None = None
timer_c_at (Some branch) = branch.timer_c_at

abbrev pub give_up_at : Option Branch → Option ℕ
give_up_at None = None
give_up_at (Some branch) = give_up_of branch.cancelling

abbrev pub is_any : {A : Type 0} → List A → Bool
is_any [] = false
is_any (x ∷ xs) = true

-- whether it is to be done at this moment; what is owed is to be done at any
abbrev pub is_due_at : Call → ℕ → Action → Bool
is_due_at call now (SendRequest n) = owes_request call n
is_due_at call now (SendCancel n) = owes_cancel call n
is_due_at call now (SendAck n) = owes_ack call n
is_due_at call now SendAnswer = is_any call.server.owed
is_due_at call now TickServer = is_due now (server.served_due call.server.machine)
is_due_at call now (TickClient n) = is_due now (client_at (nth_branch call n))
is_due_at call now (TickCancel n) = is_due now (cancel_at (nth_branch call n))
is_due_at call now (FireTimerC n) = row_passes runs_timer_c call n && is_due now (timer_c_at (nth_branch call n))
is_due_at call now (GiveUp n) = row_passes is_cancelled call n && is_due now (give_up_at (nth_branch call n))

abbrev pub IsIdle : Call → ℕ → Type 0
IsIdle call now = (action : Action) → is_due_at call now action ≡ false

-- the least moment at which something is to be done; none where nothing ever is, whatever the moment
abbrev pub IsLeastDue : Call → Option ℕ → Type 0
IsLeastDue call None = (now : ℕ) → IsIdle call now
IsLeastDue call (Some at) =
    (action : Action) × (is_due_at call at action ≡ true) × ((now : ℕ) (other : Action) → is_due_at call now other ≡ true → at ≤ now)

-- ---- the end of a call

abbrev pub IsOverCancelTransaction : Option CancelTransaction → Type 0
IsOverCancelTransaction None = Unit {0}
IsOverCancelTransaction (Some cancelling) = cancelling.client.state ≡ Terminated

pub record IsOverBranch (branch : Branch) : Type 0 where
  pub client : client.is_over branch.client
  pub cancelling : IsOverCancelTransaction branch.cancelling

-- every branch has ended, every transaction is over, and nothing is owed
pub record IsOver (call : Call) : Type 0 where
  pub finished : is_finished (rows_of call) ≡ true
  pub server : server.is_over call.server.machine
  pub branches : (n : ℕ) (branch : Branch) → nth_branch call n ≡ Some branch → IsOverBranch branch
  pub idle : (now : ℕ) → IsIdle call now
