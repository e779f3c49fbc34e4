-- What an event leaves sound of a call's table, and of what rests on it.
use Rattle.call_model.proofs.Common.{◌≡◌, ◌∙◌, ◌+◌, ℕ, zero, suc, ap, refl, sym, subst, arith, true, false, Bool, List, [], ◌∷◌, ◌++◌, map, length, Option, Some, None, slice_get, ◌&&◌, not, cond, unwrap_or, IfSome, AllByRecursion}
use Rattle.call_model.proofs.Common.{option_map, and_from, and_parts, Kind, Row, State, Idle, Trying, Rung, Ended, Table, is_invite, is_open, is_row, is_trying, Event, Ring, TimerC, RowsStay, Up, Reply, Effect, change_at, closed_state}
use Rattle.call_model.proofs.Common.{effect, next, settled, settled_row, with_effect, with_state, may_start, RowsKeepTheirNumbers, IsChosen, Log, added, event_posted, events_of, table_of, MessageText, owed_by, Owed, IsForward, IsSoundOwed}
use Rattle.fork_model.specs.Table.{is_finished, is_succeeded}
use Rattle.fork_model.specs.History.{after}
use Rattle.fork_model.specs.Reply.{Nothing, Provisional, Success, Final, IsReply, IsUp, finishes}
use Rattle.fork_model.specs.Choice.{Choice, IsChoice}
use Rattle.fork_model.specs.Chosen.{is_due}
use Rattle.fork_model.specs.Log.{Posted}
use Rattle.call_model.specs.Server as server

-- ---- a log with one more event

after_more : (t : Table) (at : ℕ) (events : List Event) (event : Event) → after t at (events ++ event ∷ []) ≡ next (after t at events) event (at + length events)
after_more t at [] event = let e : at + 0 ≡ at = omega arith in rw e refl
after_more t at (e ∷ events) event =
    let place : suc at + length events ≡ at + suc (length events) = omega arith in
    after_more (next t e at) (suc at) events event ∙ ap (next (after (next t e at) (suc at) events) event) place

events_more : (history : List Posted) (post : Posted) → events_of (history ++ post ∷ []) ≡ events_of history ++ event_posted post ∷ []
events_more [] post = refl
events_more (p ∷ history) post = ap (λ (es : List Event). event_posted p ∷ es) (events_more history post)

length_events : (history : List Posted) → length (events_of history) ≡ length history
length_events [] = refl
length_events (p ∷ history) = ap suc (length_events history)

pub table_added : (log : Log) (tag : ℕ) (event : Event) (reply : Reply) → table_of (added log tag event reply) ≡ next (table_of log) event (length log.history)
table_added log tag event reply =
    ap (after log.opening 0) (events_more log.history (record { tag = tag; event = event }))
    ∙ after_more log.opening 0 (events_of log.history) event
    ∙ ap (next (table_of log) event) (let z : 0 + length (events_of log.history) ≡ length (events_of log.history) = omega arith in z ∙ length_events log.history)

-- ---- a branch that is open

abbrev pub IsOpenAt : Table → ℕ → Type 0
IsOpenAt t n = is_row is_open (slice_get t.rows n) ≡ true

closed_open : (k : Kind) (s : State) → is_open s ≡ true → is_open (closed_state k s) ≡ true
closed_open k Idle e = absurd cc
closed_open k Trying e = refl
closed_open k (Rung cancelled) e = refl
closed_open k (Ended end) e = absurd cc

open_by : (c b : Bool) (k : Kind) (s : State) → is_open s ≡ true → is_open (cond {A = State} c (closed_state k s) (cond {A = State} b Trying s)) ≡ true
open_by true b k s e = closed_open k s e
open_by false true k s e = refl
open_by false false k s e = e

open_mapped : (u : Table) (rows : List Row) (n : ℕ) → is_row is_open (slice_get rows n) ≡ true → is_row is_open (slice_get (map (settled_row u) rows) n) ≡ true
open_mapped u [] n e = absurd cc
open_mapped u (row ∷ rows) zero e = open_by u.closed (may_start u.rows row) u.kind row.state e
open_mapped u (row ∷ rows) (suc n) e = open_mapped u rows n e

open_more : (rows fresh : List Row) (n : ℕ) → is_row is_open (slice_get rows n) ≡ true → is_row is_open (slice_get (rows ++ fresh) n) ≡ true
open_more [] fresh n e = absurd cc
open_more (row ∷ rows) fresh zero e = e
open_more (row ∷ rows) fresh (suc n) e = open_more rows fresh n e

open_with : (rows : List Row) (n m : ℕ) (s : State) → is_open s ≡ true → is_row is_open (slice_get rows m) ≡ true → is_row is_open (slice_get (with_state rows n s) m) ≡ true
open_with [] n m s h e = absurd cc
open_with (row ∷ rows) zero zero s h e = h
open_with (row ∷ rows) zero (suc m) s h e = e
open_with (row ∷ rows) (suc n) zero s h e = e
open_with (row ∷ rows) (suc n) (suc m) s h e = open_with rows n m s h e

-- an effect that leaves its own row open
open_effect : (t : Table) (n m : ℕ) (e : Option Effect) → IfSome e (λ f. is_open f.state ≡ true) → IsOpenAt t m → IsOpenAt (unwrap_or (option_map settled (option_map (with_effect t n) e)) t) m
open_effect t n m None h is = is
open_effect t n m (Some f) h is =
    let u = with_effect t n f in
    open_mapped u u.rows m (open_more (with_state t.rows n f.state) f.fresh m (open_with t.rows n m f.state h is))

open_change : (t : Table) (at n m : ℕ) (event : Event) (row : Option Row) → ((r : Row) → row ≡ Some r → IfSome (effect t r at event r.state) (λ f. is_open f.state ≡ true))
    → IsOpenAt t m → IsOpenAt (unwrap_or (option_map settled (change_at t at event n row)) t) m
open_change t at n m event None h is = is
open_change t at n m event (Some r) h is = open_effect t n m (effect t r at event r.state) (h r refl) is

ring_open : (t : Table) (row : Row) (at n status : ℕ) (s : State) → IfSome (effect t row at (Ring n status) s) (λ f. is_open f.state ≡ true)
ring_open t row at n status Idle = tt
ring_open t row at n status Trying = refl
ring_open t row at n status (Rung cancelled) = tt
ring_open t row at n status (Ended end) = tt

-- a provisional response leaves each open branch open
pub ring_stays : (t : Table) (at n m status : ℕ) → IsOpenAt t m → IsOpenAt (next t (Ring n status) at) m
ring_stays t at n m status is = open_change t at n m (Ring n status) (slice_get t.rows n) (λ r e. ring_open t r at n status r.state) is

timer_c_open : (t : Table) (row : Row) (at n : ℕ) (s : State) → is_trying s ≡ false → IfSome (effect t row at (TimerC n) s) (λ f. is_open f.state ≡ true)
timer_c_open t row at n Idle h = tt
timer_c_open t row at n Trying h = absurd cc
timer_c_open t row at n (Rung cancelled) h = by (is_invite t.kind && not cancelled)
  where
    by : (b : Bool) → IfSome (cond {A = Option Effect} b (Some (record { state = Rung true; fresh = []; closes = false })) None) (λ f. is_open f.state ≡ true)
    by true = refl
    by false = tt
timer_c_open t row at n (Ended end) h = tt

-- and so does timer C of a branch that has rung
pub timer_c_stays : (t : Table) (at n m : ℕ) → is_row is_trying (slice_get t.rows n) ≡ false → IsOpenAt t m → IsOpenAt (next t (TimerC n) at) m
timer_c_stays t at n m quiet is =
    open_change t at n m (TimerC n) (slice_get t.rows n)
    (λ r e. timer_c_open t r at n r.state (let P : Option Row → Type 0 = λ o. is_row is_trying o ≡ false in subst P e quiet)) is

-- ---- what is owed

pub all_more : {X : Type 0} (P : X → Type 0) (xs ys : List X) → AllByRecursion P xs → AllByRecursion P ys → AllByRecursion P (xs ++ ys)
all_more P [] ys h k = k
all_more P (x ∷ xs) ys h k = (h.0, all_more P xs ys h.1 k)

module _ (grows : RowsKeepTheirNumbers) (stay : RowsStay) (t : Table) (event : Event) (at : ℕ) where
  chosen_stays : (choice : Choice) → IsChosen t (Some choice) → IsChosen (next t event at) (Some choice)
  chosen_stays choice (due, is) =
      let u = next t event at in
      let finished : is_finished t.rows ≡ true = (and_parts (is_finished t.rows) (not (is_succeeded t.rows)) due).0 in
      let rows : u.rows ≡ t.rows = stay t at (event ∷ []) finished in
      let rules : u.rules ≡ t.rules = (grows t event at).rules in
      let P : List Row → Type 0 = λ rs. is_due rs ≡ true in
      let Q : List Row → Type 0 = λ rs. IsChoice u.rules rs choice in
      let R : _ → Type 0 = λ r. IsChoice r t.rows choice in
      (subst P (sym rows) due, subst Q (sym rows) (subst R (sym rules) is))

  owed_stays : (o : Owed) → IsSoundOwed t o → IsSoundOwed (next t event at) o
  owed_stays server.Trying h = h
  owed_stays (server.Passed m) h = h
  owed_stays (server.Final choice) h = chosen_stays choice h
  owed_stays server.Again h = h
  owed_stays (server.CancelOk cancel to) h = h

  all_owed_stay : (os : List Owed) → AllByRecursion (IsSoundOwed t) os → AllByRecursion (IsSoundOwed (next t event at)) os
  all_owed_stay [] h = h
  all_owed_stay (o ∷ os) h = (owed_stays o h.0, all_owed_stay os h.1)

  passed_sound : (response : Option MessageText) → IfSome response IsForward → AllByRecursion (IsSoundOwed (next t event at)) (owed_by (Provisional 0) response)
  passed_sound None h = tt
  passed_sound (Some m) h = (h, tt)

  -- what goes up with the event
  up_sound : (up : Up) (response : Option MessageText) → IfSome response IsForward → IsUp t event (next t event at) up → AllByRecursion (IsSoundOwed (next t event at)) (owed_by up response)
  up_sound Nothing response h is = tt
  up_sound (Provisional n) response h is = passed_sound response h
  up_sound (Success n) response h is = passed_sound response h
  up_sound (Final choice) response h is =
      let u = next t event at in
      let ends = and_parts (is_finished u.rows && not (is_finished t.rows)) (not (is_succeeded u.rows)) (by_parts is.2) in
      let finished = (and_parts (is_finished u.rows) (not (is_finished t.rows)) ends.0).0 in
      ((and_from (is_finished u.rows) (not (is_succeeded u.rows)) finished ends.1, is.3), tt)
    where
      by_parts : finishes t (next t event at) ≡ true → ((is_finished (next t event at).rows && not (is_finished t.rows)) && not (is_succeeded (next t event at).rows)) ≡ true
      by_parts e = e

  pub owed_sound : (owed : List Owed) (reply : Reply) (response : Option MessageText)
      → AllByRecursion (IsSoundOwed t) owed
      → IfSome response IsForward
      → IsReply t event at reply
      → AllByRecursion (IsSoundOwed (next t event at)) (owed ++ owed_by reply.up response)
  owed_sound owed reply response h k is = all_more (IsSoundOwed (next t event at)) owed (owed_by reply.up response) (all_owed_stay owed h) (up_sound reply.up response k is.up)
