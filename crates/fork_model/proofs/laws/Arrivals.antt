-- In every history the stored answers arrived apart.
use Rattle.fork_model.proofs.Common.{◌≡◌, ℕ, zero, suc, ◌+◌, ◌<◌, Bool, true, false, cond, List, [], ◌∷◌, ◌++◌, length, map, Option, Some, None, refl, ap, arith, ◌∙◌, sym, subst, inl, inr, ◌⊎◌, ◌&&◌, unwrap_or, ◌==◌, option_map, Kind, Rules, Offer}
use Rattle.fork_model.proofs.Common.{StoredAnswer, Row, Table, State, Idle, Trying, Rung, Ended, Taken, is_idle, is_invite, stored_of, Score, FinalAnswer, Event, Ring, Answer, Timeout, Fault, TimerC, GiveUp, Cancel, ContactLists, fresh_rows, Effect}
use Rattle.fork_model.proofs.Common.{moves, assumed, accepts, redirected, redirects, stores, effect, answers, change_at, with_state, with_effect, change, next, settled, settled_row, settled_state, closed_state, score_of, HasScore, Target, first_row}
use Rattle.fork_model.proofs.Common.{opening_rows, opening, after, table, AreArrivals, common_steps, rules}
use Rattle.std.specs.List.{filter_map}
use Rattle.fork_model.specs.Table.{Stored}

abbrev state_score : State → Option Score
state_score state = option_map score_of (stored_of state)

abbrev NoScore : List Row → Type 0
NoScore rows = (m : ℕ) (score : Score) → HasScore rows m score → ⊥

-- settling stores nothing
closed_score : (kind : Kind) (state : State) → state_score (closed_state kind state) ≡ state_score state
closed_score kind state = grind (arith, common_steps)

tried_score : (state : State) (a b c : Bool) → state_score (cond (is_idle state && a && b && c) Trying state) ≡ state_score state
tried_score state a b c = grind (arith, common_steps)

settled_score : (t : Table) (row : Row) → state_score (settled_state t row) ≡ state_score row.state
settled_score t row = grind (arith, common_steps, closed_score, tried_score)

settled_has : (t : Table) (rows : List Row) (m : ℕ) (score : Score) → HasScore (map (settled_row t) rows) m score → HasScore rows m score
settled_has t [] m score e = e
settled_has t (row ∷ rows) zero score e = sym (settled_score t row) ∙ e
settled_has t (row ∷ rows) (suc m) score e = settled_has t rows m score e

-- a write of one state, and rows after it that store nothing
append_has : (rows more : List Row) → NoScore more → (m : ℕ) (score : Score) → HasScore (rows ++ more) m score → HasScore rows m score
append_has [] more none m score e = absurd (none m score e)
append_has (row ∷ rows) more none zero score e = e
append_has (row ∷ rows) more none (suc m) score e = append_has rows more none m score e

put_has : (rows more : List Row) (n : ℕ) (state : State) → NoScore more → (m : ℕ) (score : Score) → HasScore (with_state rows n state ++ more) m score
    → ((m ≡ n) × (state_score state ≡ Some score)) ⊎ HasScore rows m score
put_has [] more n state none m score e = absurd (none m score e)
put_has (row ∷ rows) more zero state none zero score e = inl (refl, e)
put_has (row ∷ rows) more zero state none (suc m) score e = inr (append_has rows more none m score e)
put_has (row ∷ rows) more (suc n) state none zero score e = inr e
put_has (row ∷ rows) more (suc n) state none (suc m) score e = grind (arith, common_steps, put_has rows more n state none m score e)

-- new rows store nothing
no_score_empty : NoScore []
no_score_empty m score e = cc

no_score_cons : (row : Row) (rows : List Row) → state_score row.state ≡ None → NoScore rows → NoScore (row ∷ rows)
no_score_cons row rows is none fact score e = grind (arith, common_steps)

no_score_map : {X Y : Type 0} (row_of : X → Y → Row) (y_of : X → Option Y) → ((x : X) (y : Y) → state_score (row_of x y).state ≡ None) → (xs : List X)
    → NoScore (filter_map (λ x. option_map (row_of x) (y_of x)) xs)
no_score_map row_of y_of idle [] = no_score_empty
no_score_map {Y = Y} row_of y_of idle (x ∷ xs) = grind (arith, common_steps, no_score_cons, no_score_map row_of y_of idle xs)

fresh_none : (n : ℕ) (fresh : List (ℕ × Offer)) → NoScore (fresh_rows n fresh)
fresh_none n fresh = search (rules, no_score_map)

first_none : (group place : ℕ) (target : Target) → state_score (first_row group place target).state ≡ None
first_none group place target = elim (group == 0) as (λ first. state_score (cond first Trying Idle) ≡ None) [ true ↦ refl | false ↦ refl ]

opening_none : (targets : List Target) → NoScore (opening_rows targets)
opening_none targets = search (rules, no_score_map, first_none)

-- what an event stores arrived with it
record Arrives (at : ℕ) (e : Effect) : Type 0 where
  stored : (score : Score) → state_score e.state ≡ Some score → score.arrival ≡ at
  fresh : NoScore e.fresh

MayArrive : ℕ → Option Effect → Type 0
MayArrive at None = Unit {0}
MayArrive at (Some e) = Arrives at e

moves_none : (at : ℕ) (state : State) → state_score state ≡ None → Arrives at (moves state)
moves_none at state is = record { stored = λ score e. cc; fresh = no_score_empty }

stored_here : (at : ℕ) (answer : StoredAnswer) → answer.arrival ≡ at → (score : Score) → state_score (Ended (Stored answer)) ≡ Some score → score.arrival ≡ at
stored_here at answer is score e = let same : score_of answer ≡ score = cc in ap (λ (s : Score). s.arrival) (sym same) ∙ is

taken_or_stored : (taken : Bool) (at : ℕ) (answer : StoredAnswer) → answer.arrival ≡ at → (score : Score)
    → state_score (Ended (cond taken (Taken at) (Stored answer))) ≡ Some score → score.arrival ≡ at
taken_or_stored taken at answer is score e = grind (arith, common_steps, stored_here)

redirected_stored : (at : ℕ) (answer : FinalAnswer) (taken : ContactLists) (score : Score) → state_score (Ended (redirected at answer taken)) ≡ Some score → score.arrival ≡ at
redirected_stored at answer taken score e = grind (arith, common_steps, taken_or_stored)

either_arrives : (b : Bool) (at : ℕ) (x y : Effect) → Arrives at x → Arrives at y → Arrives at (cond b x y)
either_arrives b at x y here there = grind (arith, common_steps)

accepts_arrives : (at : ℕ) → Arrives at (accepts at)
accepts_arrives at = grind (arith, common_steps, no_score_empty)

redirects_arrives : (n at : ℕ) (answer : FinalAnswer) (taken : ContactLists) → Arrives at (redirects n at answer taken)
redirects_arrives n at answer taken = record { stored = redirected_stored at answer taken; fresh = fresh_none n taken.fresh }

stores_arrives : (at : ℕ) (answer : FinalAnswer) → Arrives at (stores at answer)
stores_arrives at answer = grind (arith, common_steps, stored_here, no_score_empty)

answers_arrive : (t : Table) (n : ℕ) (row : Row) (at : ℕ) (answer : FinalAnswer) → Arrives at (answers t n row at answer)
answers_arrive t n row at answer = search (rules, either_arrives, accepts_arrives, redirects_arrives, stores_arrives)

assumed_arrives : (status at : ℕ) → Arrives at (assumed status at)
assumed_arrives status at = grind (arith, common_steps, stored_here, no_score_empty)

where_arrives : (b : Bool) (at : ℕ) (e : Effect) → Arrives at e → MayArrive at (cond b (Some e) None)
unfolding MayArrive
where_arrives b at e arrives = grind (arith, common_steps)

effect_arrives : (t : Table) (row : Row) (at : ℕ) (event : Event) (state : State) → MayArrive at (effect t row at event state)
unfolding MayArrive
effect_arrives t row at event Idle = tt
effect_arrives t row at event (Ended end) = tt
effect_arrives t row at (Ring n status) Trying = moves_none at (Rung false) refl
effect_arrives t row at (Ring n status) (Rung cancelled) = tt
effect_arrives t row at (Answer n answer) Trying = answers_arrive t n row at answer
effect_arrives t row at (Answer n answer) (Rung cancelled) = answers_arrive t n row at answer
effect_arrives t row at (Timeout n) Trying = assumed_arrives 408 at
effect_arrives t row at (Timeout n) (Rung cancelled) = assumed_arrives 408 at
effect_arrives t row at (Fault n) Trying = assumed_arrives 503 at
effect_arrives t row at (Fault n) (Rung cancelled) = assumed_arrives 503 at
effect_arrives t row at (TimerC n) Trying = where_arrives (is_invite t.kind) at (assumed 408 at) (assumed_arrives 408 at)
effect_arrives t row at (TimerC n) (Rung cancelled) = grind (arith, common_steps, where_arrives, moves_none)
effect_arrives t row at (GiveUp n) Trying = tt
effect_arrives t row at (GiveUp n) (Rung cancelled) = grind (arith, common_steps, where_arrives, moves_none)
effect_arrives t row at Cancel Trying = tt
effect_arrives t row at Cancel (Rung cancelled) = tt

-- what the changed table stores it stored before, but for one row
record Brings (old new : List Row) (at : ℕ) : Type 0 where
  named : ℕ
  here : (m : ℕ) (score : Score) → HasScore new m score → ((m ≡ named) × (score.arrival ≡ at)) ⊎ HasScore old m score

MayBring : Table → ℕ → Option Table → Type 0
MayBring t at None = Unit {0}
MayBring t at (Some u) = Brings t.rows u.rows at

effect_brings : (t : Table) (at n : ℕ) (e : Option Effect) → MayArrive at e → MayBring t at (option_map (with_effect t n) e)
unfolding MayArrive MayBring
effect_brings t at n None arrives = tt
effect_brings t at n (Some e) arrives = record {
  named = n;
  here = λ m score is.
      elim (put_has t.rows e.fresh n e.state arrives.fresh m score is) [
        | inl h ↦ inl (h.0, arrives.stored score h.1)
        | inr h ↦ inr h
      ];
}

change_at_brings : (t : Table) (at : ℕ) (event : Event) (n : ℕ) (row : Option Row) → MayBring t at (change_at t at event n row)
unfolding MayBring
change_at_brings t at event n row = grind (arith, common_steps, effect_brings, effect_arrives)

cancelled_brings : (t : Table) (at : ℕ) (b : Bool) → MayBring t at (cond b (Some (record t { closed = true })) None)
unfolding MayBring
cancelled_brings t at b = grind (arith, common_steps)

change_brings : (t : Table) (event : Event) (at : ℕ) → MayBring t at (change t event at)
change_brings t event at = grind (arith, common_steps, change_at_brings, cancelled_brings)

-- one event
older : (a at : ℕ) → a < at → a < suc at
older a at lt = omega arith

newest : (a at : ℕ) → a ≡ at → a < suc at
newest a at is = omega arith

clash : (a b at : ℕ) → a < at → b ≡ at → a ≡ b → ⊥
clash a b at lt is same = omega arith

brought : (old new : List Row) (at : ℕ) → AreArrivals old at → Brings old new at → AreArrivals new (suc at)
brought old new at kept brings = grind (arith, common_steps, newest, older, clash)

later : (rows : List Row) (at : ℕ) → AreArrivals rows at → AreArrivals rows (suc at)
later rows at kept = record { past = λ m score is. older score.arrival at (kept.past m score is); apart = kept.apart }

settled_arrivals : (t : Table) (at : ℕ) → AreArrivals t.rows at → AreArrivals (settled t).rows at
settled_arrivals t at kept = grind (arith, common_steps, settled_has)

changed_arrivals : (t : Table) (at : ℕ) (c : Option Table) → AreArrivals t.rows at → MayBring t at c
    → AreArrivals (unwrap_or (option_map settled c) t).rows (suc at)
unfolding MayBring
changed_arrivals t at c kept brings = grind (arith, common_steps, later, settled_arrivals, brought)

pub next_arrivals : (t : Table) (event : Event) (at : ℕ) → AreArrivals t.rows at → AreArrivals (next t event at).rows (suc at)
next_arrivals t event at kept = changed_arrivals t at (change t event at) kept (change_brings t event at)

-- a whole history
pub after_arrivals : (t : Table) (at : ℕ) (events : List Event) → AreArrivals t.rows at → AreArrivals (after t at events).rows (at + length events)
after_arrivals t at [] kept = grind (arith, common_steps)
after_arrivals t at (event ∷ events) kept = grind (arith, common_steps, next_arrivals, after_arrivals (next t event at) (suc at) events (next_arrivals t event at kept))

pub history_of_arrivals : (kind : Kind) (rules : Rules) (targets : List Target) (events : List Event)
    → AreArrivals (table kind rules targets events).rows (length events)
history_of_arrivals kind rules targets events =
    let P : ℕ → Type 0 = λ n. AreArrivals (table kind rules targets events).rows n in
    subst P (none_plus (length events)) (after_arrivals (opening kind rules targets) 0 events none)
  where
    none_plus : (n : ℕ) → 0 + n ≡ n
    none_plus n = omega arith

    none : AreArrivals (opening_rows targets) 0
    none = record {
      past = λ m score is. absurd (opening_none targets m score is);
      apart = λ m n a b x y same. absurd (opening_none targets m a x);
    }
