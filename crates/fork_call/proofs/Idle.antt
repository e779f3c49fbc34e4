use Rattle.fork_call.proofs.Common.{◌≡◌, ℕ, ◌<◌, refl, arith, true, false, Bool, [], Option, Some, None, slice_get, leb-false, lt-leb, ◌&&◌, is_none, min, cond, is_row, is_trying, is_cancelled, earlier, is_due, Branch, Call, rows_of, nth_branch}
use Rattle.fork_call.proofs.Common.{lacks_cancel, owes_ack_on, runs_timer_c, give_up_of, SendRequest, SendCancel, SendAck, SendAnswer, TickServer, TickClient, TickCancel, FireTimerC, GiveUp, IsIdle, client_at, cancel_at, timer_c_at}
use Rattle.fork_call.proofs.Common.{give_up_at, cancel_client_due, if_runs, branch_waits, row_due, due_of}
use Rattle.std.proofs.Math.Dec.{leb-zero}
use Rattle.std.specs.Prelude.{nat_le}
use Rattle.call_model.specs.Client as client
use Rattle.call_model.specs.Server as server

-- ---- the earlier of two moments

pub both_later : (now : ℕ) (a b : Option ℕ) → is_due now (earlier a b) ≡ false → (is_due now a ≡ false) × (is_due now b ≡ false)
both_later now None b e = (refl, e)
both_later now (Some a) None e = (e, refl)
both_later now (Some a) (Some b) e =
    let later : now < min a b = leb-false (min a b) now e in
    let first : now < a = omega arith in
    let second : now < b = omega arith in
    (lt-leb a now first, lt-leb b now second)

-- ---- one row

-- what is known where nothing is due on a row with this part
record NothingDue (now : ℕ) (trying cancelled runs_c : Bool) (branch : Option Branch) : Type 0 where
  request : (trying && is_none branch) ≡ false
  cancel : (cancelled && lacks_cancel branch) ≡ false
  ack : owes_ack_on branch ≡ false
  client : is_due now (client_at branch) ≡ false
  cancelling : is_due now (cancel_at branch) ≡ false
  timer_c : (runs_c && is_due now (timer_c_at branch)) ≡ false
  give_up : (cancelled && is_due now (give_up_at branch)) ≡ false

and_false : (b : Bool) → (b && false) ≡ false
and_false true = refl
and_false false = refl

nothing_due_none : (now : ℕ) (trying cancelled runs_c : Bool) → is_due now (row_due trying cancelled runs_c None) ≡ false → NothingDue now trying cancelled runs_c None
nothing_due_none now true cancelled runs_c e = absurd (let h : nat_le 0 now ≡ true = leb-zero now in cc)
nothing_due_none now false cancelled runs_c e = record {
  request = refl;
  cancel = and_false cancelled;
  ack = refl;
  client = refl;
  cancelling = refl;
  timer_c = and_false runs_c;
  give_up = and_false cancelled;
}

run_later : (now : ℕ) (b : Bool) (at : Option ℕ) → is_due now (if_runs b at) ≡ false → (b && is_due now at) ≡ false
run_later now true at e = e
run_later now false at e = refl

-- where no part of it is due
nothing_due_waits : (now : ℕ) (trying cancelled runs_c : Bool) (branch : Branch) → owes_ack_on (Some branch) ≡ false → (cancelled && is_none branch.cancelling) ≡ false
    → is_due now (branch_waits cancelled runs_c branch) ≡ false → NothingDue now trying cancelled runs_c (Some branch)
nothing_due_waits now trying cancelled runs_c branch no_ack no_cancel e =
    let a = both_later now (client.client_due branch.client) _ e in
    let b = both_later now (cancel_client_due branch.cancelling) _ a.1 in
    let c = both_later now (if_runs runs_c branch.timer_c_at) _ b.1 in
    record {
      request = and_false trying;
      cancel = no_cancel;
      ack = no_ack;
      client = a.0;
      cancelling = b.0;
      timer_c = run_later now runs_c branch.timer_c_at c.0;
      give_up = run_later now cancelled (give_up_of branch.cancelling) c.1;
    }

by_tests : (now : ℕ) (x y : Bool) (w : Option ℕ) → is_due now (cond {A = Option ℕ} x (Some 0) (cond {A = Option ℕ} y (Some 0) w)) ≡ false → (x ≡ false) × (y ≡ false) × (is_due now w ≡ false)
by_tests now true y w e = absurd (let h : nat_le 0 now ≡ true = leb-zero now in cc)
by_tests now false true w e = absurd (let h : nat_le 0 now ≡ true = leb-zero now in cc)
by_tests now false false w e = (refl, refl, e)

nothing_due : (now : ℕ) (trying cancelled runs_c : Bool) (branch : Option Branch) → is_due now (row_due trying cancelled runs_c branch) ≡ false → NothingDue now trying cancelled runs_c branch
nothing_due now trying cancelled runs_c None e = nothing_due_none now trying cancelled runs_c e
nothing_due now trying cancelled runs_c (Some branch) e =
    let t = by_tests now (owes_ack_on (Some branch)) (cancelled && is_none branch.cancelling) (branch_waits cancelled runs_c branch) e in
    nothing_due_waits now trying cancelled runs_c branch t.0 t.1 t.2

-- ---- the whole call

-- where nothing is owed to the caller, and no moment of the caller's transaction or of a row has come, nothing is due
pub idle : (call : Call) (now : ℕ) → call.server.owed ≡ [] → is_due now (server.served_due call.server.machine) ≡ false
    → ((n : ℕ) → is_due now (due_of (slice_get (rows_of call) n) (nth_branch call n)) ≡ false)
    → IsIdle call now
idle call now none served rows = by_action
  where
    at : (n : ℕ) → NothingDue now (is_row is_trying (slice_get (rows_of call) n)) (is_row is_cancelled (slice_get (rows_of call) n)) (is_row runs_timer_c (slice_get (rows_of call) n)) (nth_branch call n)
    at n = nothing_due now _ _ _ (nth_branch call n) (rows n)

    by_action : IsIdle call now
    by_action (SendRequest n) = (at n).request
    by_action (SendCancel n) = (at n).cancel
    by_action (SendAck n) = (at n).ack
    by_action SendAnswer = rw none refl
    by_action TickServer = served
    by_action (TickClient n) = (at n).client
    by_action (TickCancel n) = (at n).cancelling
    by_action (FireTimerC n) = (at n).timer_c
    by_action (GiveUp n) = (at n).give_up
