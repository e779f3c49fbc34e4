-- The events that a call posts by itself, as its timers and its transactions have it: each fits the table whenever it is
-- posted, so that the book never refuses one (RFC 3261 sections 9.1, 16.8, 16.9 and 17.1).
use Rattle.std.specs.Prelude.{◌≡◌, ℕ, true, false, Some}
use Rattle.fork_model.specs.Core.{is_full}
use Rattle.fork_model.specs.Event as fork
use Rattle.fork_model.specs.Event.{Event}
use Rattle.fork_model.specs.Log.{core_of, table_of}
use Rattle.fork_model.specs.OpenBranches.{fits}
use Rattle.sip_txn.specs.declared.event.TxEvent.TheVariants as event
use Rattle.call_model.specs.Call.{Call, nth_branch}
use Rattle.call_model.specs.Client.{client_out}
use Rattle.call_model.specs.Due.{FireTimerC, GiveUp, is_due_at}
use Rattle.call_model.specs.Failed.{is_fault}
use Rattle.call_model.specs.Branch.{Branch}
use Rattle.call_model.specs.Pump.{is_timeout}
use Rattle.call_model.specs.Sound.{IsSound}
use Rattle.call_model.specs.Take.{cancels}

-- it changes the table, and the book takes it, however many events it holds
pub record IsTaken (call : Call) (ev : Event) : Type 0 where
  pub changes : fits (table_of call.log) ev ≡ true
  pub room : is_full (core_of call.log) ev ≡ false

-- timers B and F of a branch
abbrev pub TimeoutsAreTaken : Type 0
TimeoutsAreTaken =
    (call : Call) (n now : ℕ) (branch : Branch) → IsSound call → nth_branch call n ≡ Some branch → is_timeout (client_out event.Tick now branch.client).pass ≡ true
    → IsTaken call (fork.Timeout n)

-- a branch whose datagram could not be sent
abbrev pub FaultsAreTaken : Type 0
FaultsAreTaken =
    (call : Call) (n now : ℕ) (branch : Branch) → IsSound call → nth_branch call n ≡ Some branch → is_fault (client_out event.TransportError now branch.client).pass ≡ true
    → IsTaken call (fork.Fault n)

-- timer C
abbrev pub TimerCsAreTaken : Type 0
TimerCsAreTaken = (call : Call) (n now : ℕ) → IsSound call → is_due_at call now (FireTimerC n) ≡ true → IsTaken call (fork.TimerC n)

-- the end of the wait for a cancelled branch
abbrev pub GivingsUpAreTaken : Type 0
GivingsUpAreTaken = (call : Call) (n now : ℕ) → is_due_at call now (GiveUp n) ≡ true → IsTaken call (fork.GiveUp n)

-- the caller's CANCEL, where it is posted
abbrev pub CancelsAreTaken : Type 0
CancelsAreTaken = (call : Call) → IsSound call → cancels call ≡ true → IsTaken call fork.Cancel
