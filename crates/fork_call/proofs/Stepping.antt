-- What is next to be done on a call, and how a step leaves it.
use Rattle.fork_call.proofs.Common.{◌≡◌, ◌∙◌, ℕ, zero, suc, ◌+◌, ◌<◌, ◌≤◌, ap, refl, sym, subst, inl, inr, arith, true, false, Bool, List, [], ◌∷◌, ◌++◌, length, replicate, Option, Some, None, slice_get, ◌==◌, list_any, eqb-true, slice_get_within}
use Rattle.fork_call.proofs.Common.{Event, OthersAreLeft, Reply, BecameIsExact, next, PositionsAreBounded, Table, Log, Posted, is_due, Cause, Call, nth_branch, rows_of, Action, IsIdle, is_due_at, Fails, Does, Pumped, IsSound, StepsKeepSound}
use Rattle.fork_call.proofs.Common.{due_of, scheduled, IsTimed, retimed, row_moment, row_of_cause, row_of_action}
use Rattle.std.specs.Prelude.{IfNone, ◌||◌}
use Rattle.fork_model.specs.History.{AreReplies}
use Rattle.call_laws.specs.Right.{SendsRight, StepsStand, finals_paid}
use Rattle.call_laws.specs.Sending.{Sends, WhatIsSentIsRight}
use Rattle.call_laws.specs.Stages.{paid_at}
use Rattle.call_model.specs.Pump.{Idle}
use Rattle.fork_model.specs.Sources as sources
use Rattle.fork_model.specs.Log.{IsLog, events_of}
use Rattle.call_model.specs.Server as server
use Rattle.call_model.specs.Step as step
use Rattle.fork_call.proofs.Idle.{idle}
use Rattle.fork_call.proofs.LeastDue.{moment_stands}
use Rattle.fork_call.proofs.Timed.{length_scheduled, no_more_rows, retimed_is, scheduled_is, still_within}
use Rattle.fork_call.proofs.Touching.{Touches, does_pump, does_touch, fails_touch}

-- ---- what is next

pub if_none : {A : Type 0} → (r : Option A) (P : Type 0) → P → IfNone r P
if_none None P p = p
if_none (Some x) P p = _

pub empty_by : {A : Type 0} → (xs : List A) (b : Bool) → b ≡ (length xs == 0) → b ≡ true → xs ≡ []
empty_by [] b is test = refl
empty_by (x ∷ xs) true is test = absurd (let h : suc (length xs) ≡ 0 = eqb-true (suc (length xs)) 0 (sym is) in omega arith)
empty_by (x ∷ xs) false is test = absurd cc

none_any : (now : ℕ) (moments : List (Option ℕ)) → list_any (is_due now) moments ≡ false
    → (k : ℕ) (moment : Option ℕ) → slice_get moments k ≡ Some moment → is_due now moment ≡ false
none_any now [] none k moment there = absurd cc
none_any now (m ∷ moments) none k moment there = by_test (is_due now m) refl none (λ n k there. none_any now moments n k moment there) k there
  where
    by_test : (b : Bool) → is_due now m ≡ b → (b || list_any (is_due now) moments) ≡ false
        → (list_any (is_due now) moments ≡ false → (k : ℕ) → slice_get moments k ≡ Some moment → is_due now moment ≡ false) → (k : ℕ) → slice_get (m ∷ moments) k ≡ Some moment → is_due now moment ≡ false
    by_test true e none rest k there = absurd cc
    by_test false e none rest zero there =
        let same : m ≡ moment = cc in
        ap (is_due now) (sym same) ∙ e
    by_test false e none rest (suc k) there = rest none k there

pub idle_by : (call : Call) (now : ℕ) (moments : List (Option ℕ)) → moments ≡ scheduled call → length call.branches ≡ length (rows_of call)
    → call.server.owed ≡ [] → is_due now (server.served_due call.server.machine) ≡ false → list_any (is_due now) moments ≡ false
    → IsIdle call now
idle_by call now moments times sized none served any =
    idle call now none served (λ n. elim (moment_stands (rows_of call) call.branches n sized) [
      | inl h ↦ none_any now (scheduled call) (ap (list_any (is_due now)) (sym times) ∙ any) n (due_of (slice_get (rows_of call) n) (nth_branch call n)) h
      | inr h ↦ ap (is_due now) h.1
    ])

-- a moment that stands in the schedule is that of a row
pub due_by : (call : Call) (now k : ℕ) (moments : List (Option ℕ)) → moments ≡ scheduled call
    → (moment : Option ℕ) × (slice_get moments k ≡ Some moment) × (is_due now moment ≡ true)
    → is_due now (row_moment call k) ≡ true
due_by call now k moments times (moment, there, due) =
    let listed : slice_get (scheduled call) k ≡ Some moment = ap (λ (ms : List (Option ℕ)). slice_get ms k) (sym times) ∙ there in
    ap (is_due now) (scheduled_is call k moment listed) ∙ due

pub row_by : (call : Call) (now k : ℕ) (moments : List (Option ℕ)) → moments ≡ scheduled call
    → (moment : Option ℕ) × (slice_get moments k ≡ Some moment) × (is_due now moment ≡ true)
    → k < length (rows_of call)
row_by call now k moments times (moment, there, due) =
    let below = slice_get_within moments k moment there in
    let size : length moments ≡ length (rows_of call) = ap (λ (ms : List (Option ℕ)). length ms) times ∙ length_scheduled call in
    omega (arith, below, size)

-- ---- as many replies as events

as_many : (t : Table) (at : ℕ) (events : List Event) (replies : List Reply) → AreReplies t at events replies → length replies ≡ length events
as_many t at [] [] h = refl
as_many t at [] (reply ∷ replies) h = absurd h
as_many t at (event ∷ events) [] h = absurd h
as_many t at (event ∷ events) (reply ∷ replies) h = ap suc (as_many (next t event at) (suc at) events replies h.1)

pub replied_each : (log : Log) → IsLog log → length log.replies ≡ length log.history
replied_each log is = as_many log.opening 0 (events_of log.history) log.replies is.answered ∙ each log.history
  where
    each : (history : List Posted) → length (events_of history) ≡ length history
    each [] = refl
    each (p ∷ history) = ap suc (each history)

-- ---- after a step

pub no_padding : (moments : List (Option ℕ)) → moments ++ replicate 0 None ≡ moments
no_padding [] = refl
no_padding (m ∷ moments) = ap (λ (ms : List (Option ℕ)). m ∷ ms) (no_padding moments)

module _ (kept : StepsKeepSound) (stand : StepsStand) (bounded : PositionsAreBounded) (none : sources.AddsNoRow) (left : OthersAreLeft) (exact : BecameIsExact)
    (call new : Call) (moments after : List (Option ℕ)) (timed : IsTimed call moments)
    (sized : length call.branches ≡ length (rows_of call)) (replied : length call.log.replies ≡ length call.log.history) where
  -- by a step it stands as before
  pub right_after : (turn : step.Turn) → step.Step turn.now call turn.input new turn.output → SendsRight new
  right_after turn goes =
      let before = timed.right in (
        before.0 ++ turn ∷ [],
        before.1 ++ finals_paid (paid_at before.0 call (record { turn = turn; call = new })),
        stand before.0 before.1 turn call new timed.sound before.2 goes,
      )

  pub timed_after : (row : Option ℕ) (nothing_due : Type 0) (p : ℕ) → Touches call new row nothing_due → IsSound new → SendsRight new
      → length (rows_of new) ≤ length (rows_of call) + p
      → after ≡ retimed new row (length call.log.history) (moments ++ replicate p None)
      → IsTimed new after
  timed_after row nothing_due p touches sound right room is = record {
    sound = sound;
    right = right;
    times = is
        ∙ ap (λ (ms : List (Option ℕ)). retimed new row (length call.log.history) (ms ++ replicate p None)) timed.times
        ∙ retimed_is left exact call new row nothing_due p sized replied room touches;
    within = still_within bounded call new row nothing_due touches timed.within;
  }

  -- without more rows
  same_after : (row : Option ℕ) → Touches call new row (Unit {0}) → IsSound new → SendsRight new → after ≡ retimed new row (length call.log.history) moments → IsTimed new after
  same_after row touches sound right is =
      let rows : length (rows_of new) ≡ length (rows_of call) = no_more_rows none call new row (Unit {0}) touches _ in
      timed_after row (Unit {0}) 0 touches sound right (omega (arith, rows))
      (is ∙ ap (λ (ms : List (Option ℕ)). retimed new row (length call.log.history) ms) (sym (no_padding moments)))

  pub pumped_timed : (now : ℕ) (action : Action) (pumped : Pumped) → is_due_at call now action ≡ true → Does call now action pumped new
      → after ≡ retimed new (row_of_action action) (length call.log.history) moments
      → IsTimed new after
  pumped_timed now action pumped due does is =
      same_after (row_of_action action) (does_touch call new now action pumped does)
      (kept (record { now = now; input = step.Pump; output = step.Did pumped }) call new timed.sound _ (does_pump call new now action pumped due does))
      (right_after (record { now = now; input = step.Pump; output = step.Did pumped }) (does_pump call new now action pumped due does)) is

  pub failed_timed : (now : ℕ) (why : Cause) → Fails call now why new
      → after ≡ retimed new (row_of_cause why) (length call.log.history) moments
      → IsTimed new after
  failed_timed now why fails is =
      same_after (row_of_cause why) (fails_touch call new now why fails)
      (kept (record { now = now; input = step.Failed why; output = step.Told }) call new timed.sound _ fails)
      (right_after (record { now = now; input = step.Failed why; output = step.Told }) fails) is

-- what an action sends is right
pub done_right : WhatIsSentIsRight → (call new old : Call) → SendsRight call → call ≡ old → (now : ℕ) (action : Action) (pumped : Pumped) → is_due_at call now action ≡ true
    → Does call now action pumped new → Sends old pumped
done_right law call new old right view now action pumped due does =
    let P : Call → Type 0 = λ x. Sends x pumped in
    subst P view (right.0, law right.0 right.1 now call new pumped right.2 (does_pump call new now action pumped due does))

-- where nothing is due, nothing is sent
pub idle_right : (call old : Call) → SendsRight call → call ≡ old → Sends old Idle
idle_right call old right view =
    let P : Call → Type 0 = λ x. Sends x Idle in
    subst P view (right.0, tt)
