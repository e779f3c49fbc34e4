-- The events that a call posts by itself fit its table.
use Rattle.call_model.proofs.Common.{◌≡◌, ◌∙◌, ℕ, ap, refl, true, false, Bool, Option, Some, None, slice_get, is_some, and_from, and_parts, cond, not, ◌&&◌, TimerC, Event, Ended, Idle, Kind, Row, Rung, State, Trying, is_invite, is_row, is_open, table_of, Call, nth_branch}
use Rattle.call_model.proofs.Common.{row_passes, FireTimerC, is_due_at, Branch, IsSound, is_timeout, is_fault, client_out}
use Rattle.fork_model.specs.Event as fork
use Rattle.fork_model.specs.Log.{core_of}
use Rattle.fork_model.specs.OpenBranches.{FittingEventsAreTaken, fits, is_pending}
use Rattle.fork_model.specs.Table as table
use Rattle.sip_txn.specs.declared.event.TxEvent.TheVariants as event
use Rattle.sip_txn.specs.Timers.{is_due}
use Rattle.call_model.specs.Call.{is_sent, rows_of, runs_timer_c}
use Rattle.call_model.specs.Due.{give_up_at, timer_c_at}
use Rattle.call_model.specs.Fitting.{CancelsAreTaken, FaultsAreTaken, GivingsUpAreTaken, IsTaken, TimeoutsAreTaken, TimerCsAreTaken}
use Rattle.call_model.specs.OpenedRequest as opened
use Rattle.call_model.specs.Take.{cancels}
use Rattle.call_model.proofs.laws.Waiting as waiting

-- ---- timer C: its branch was sent to, and it is an INVITE

some_of : (now : ℕ) (at : Option ℕ) → is_due now at ≡ true → is_some at ≡ true
some_of now None e = absurd cc
some_of now (Some at) e = refl

part_of : (call : Call) (n now : ℕ) (o : Option Branch) → nth_branch call n ≡ o → is_due now (timer_c_at o) ≡ true
    → (branch : Branch) × (nth_branch call n ≡ Some branch) × (is_some branch.timer_c_at ≡ true)
part_of call n now None h e = absurd cc
part_of call n now (Some branch) h e = (branch, h, some_of now branch.timer_c_at e)

fired_of : (call : Call) (n now : ℕ) → is_due_at call now (FireTimerC n) ≡ true
    → (row_passes runs_timer_c call n ≡ true) × (branch : Branch) × (nth_branch call n ≡ Some branch) × (is_some branch.timer_c_at ≡ true)
fired_of call n now e =
    let both = and_parts (row_passes runs_timer_c call n) (is_due now (timer_c_at (nth_branch call n))) e in
    let part = part_of call n now (nth_branch call n) refl both.1 in
    (both.0, part.0, part.1, part.2)

pub fired_is_sent : (call : Call) (n now : ℕ) → is_due_at call now (FireTimerC n) ≡ true → is_sent call n ≡ true
fired_is_sent call n now e = let f = fired_of call n now e in ap is_some f.2

-- it runs where the branch is open and has no CANCEL
pending : (state : State) → runs_timer_c state ≡ true → is_pending state ≡ true
pending Idle e = absurd cc
pending Trying e = refl
pending (Rung true) e = absurd cc
pending (Rung false) e = refl
pending (Ended end) e = absurd cc

pending_row : (row : Option Row) → is_row runs_timer_c row ≡ true → is_row is_pending row ≡ true
pending_row None e = absurd cc
pending_row (Some row) e = pending row.state e

pub fired_fits : (call : Call) (n now : ℕ) → is_due_at call now (FireTimerC n) ≡ true → IsSound call → fits (table_of call.log) (TimerC n) ≡ true
fired_fits call n now e sound =
    let f = fired_of call n now e in
    and_from (is_invite (table_of call.log).kind) (is_row is_pending (slice_get (rows_of call) n))
    ((sound.branches n f.1 f.2).timer_c f.3) (pending_row (slice_get (rows_of call) n) f.0)

-- ---- a branch whose transaction ends is open

pub timeout_fits : (call : Call) (n now : ℕ) (branch : Branch) → IsSound call → nth_branch call n ≡ Some branch → is_timeout (client_out event.Tick now branch.client).pass ≡ true
    → row_passes is_open call n ≡ true
timeout_fits call n now branch sound there e = (sound.branches n branch there).open_yet (waiting.timed_out event.Tick now branch.client e).0

pub fault_fits : (call : Call) (n now : ℕ) (branch : Branch) → IsSound call → nth_branch call n ≡ Some branch → is_fault (client_out event.TransportError now branch.client).pass ≡ true
    → row_passes is_open call n ≡ true
fault_fits call n now branch sound there e = (sound.branches n branch there).open_yet (waiting.faulted event.TransportError now branch.client e).0

-- ---- the caller's CANCEL

-- an INVITE is one by its table, too
pub kind_is : (call : Call) → IsSound call → is_invite (table_of call.log).kind ≡ opened.is_invite call.opened
kind_is call sound = ap is_invite sound.kind ∙ by (opened.is_invite call.opened)
  where
    by : (b : Bool) → is_invite (cond {A = Kind} b table.Invite table.Other) ≡ b
    by true = refl
    by false = refl

pub cancel_fits : (call : Call) → IsSound call → cancels call ≡ true → fits (table_of call.log) fork.Cancel ≡ true
cancel_fits call sound closes = ap (λ (b : Bool). b && not (table_of call.log).closed) (kind_is call sound) ∙ closes

-- ---- so the book takes each

module _ (taken : FittingEventsAreTaken) where
  is_taken : (call : Call) (ev : Event) → fits (table_of call.log) ev ≡ true → IsTaken call ev
  is_taken call ev e = record { changes = e; room = taken (core_of call.log) ev e }

  pub timeouts : TimeoutsAreTaken
  timeouts call n now branch sound there e = is_taken call (fork.Timeout n) (timeout_fits call n now branch sound there e)

  pub faults : FaultsAreTaken
  faults call n now branch sound there e = is_taken call (fork.Fault n) (fault_fits call n now branch sound there e)

  pub timer_cs : TimerCsAreTaken
  timer_cs call n now sound e = is_taken call (fork.TimerC n) (fired_fits call n now e sound)

  pub givings_up : GivingsUpAreTaken
  givings_up call n now e = is_taken call (fork.GiveUp n) (and_parts (row_passes table.is_cancelled call n) (is_due now (give_up_at (nth_branch call n))) e).0

  pub cancellings : CancelsAreTaken
  cancellings call sound e = is_taken call fork.Cancel (cancel_fits call sound e)
