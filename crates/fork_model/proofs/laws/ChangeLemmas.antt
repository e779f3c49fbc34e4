-- What a change of a table is: the table closes, or one row goes on and new rows may come under it.
use Rattle.fork_model.proofs.Common.{◌≡◌, ℕ, zero, suc, Bool, true, false, List, [], ◌∷◌, ◌++◌, Option, Some, None, refl, ap, arith, ◌∙◌, sym, subst, cond, inl, inr, ◌⊎◌, slice_get, not, ◌&&◌, nat_lt, filter_map, option_map, cons_option, Row, Table}
use Rattle.fork_model.proofs.Common.{State, Idle, Trying, Rung, Ended, Silent, Offer, is_idle, is_trying, is_ended, is_open, is_invite, Event, FinalAnswer, Ring, Answer, Timeout, Fault, TimerC, GiveUp, Cancel, row_named, taking_at, fresh_rows}
use Rattle.fork_model.proofs.Common.{Effect, effect, moves, assumed, accepts, answers, redirected, redirects, stores, with_state, with_effect, change_at, change, cancelled}
use Rattle.fork_model.proofs.laws.StepLemmas.{effect_moves, MovesBy, MovesOn}

-- ---- rows found

-- what filter_map gives, it gives of an element
pub from_filter_map : {X Y : Type 0} (h : X → Option Y) (xs : List X) (m : ℕ) (y : Y) → slice_get (filter_map h xs) m ≡ Some y
    → (x : X) × (h x ≡ Some y)
from_filter_map h [] m y is = absurd cc
from_filter_map {X} {Y} h (x ∷ xs) m y is = go (h x) refl m is (λ k e. from_filter_map h xs k y e)
  where
    go : (o : Option Y) → h x ≡ o → (m : ℕ) → slice_get (cons_option o (filter_map h xs)) m ≡ Some y
        → ((k : ℕ) → slice_get (filter_map h xs) k ≡ Some y → (x : X) × (h x ≡ Some y)) → (x : X) × (h x ≡ Some y)
    go None here m is rest = rest m is
    go (Some z) here zero is rest = (x, here ∙ is)
    go (Some z) here (suc m) is rest = rest m is

-- a row of a list with one row changed and more behind: one that was there, the changed one, or a new one
abbrev pub Found : List Row → List Row → ℕ → State → ℕ → Row → Type 0
Found rows fresh n state m row =
    (slice_get rows m ≡ Some row) ⊎ (((m ≡ n) × (row.state ≡ state)) ⊎ ((k : ℕ) × (slice_get fresh k ≡ Some row)))

found_behind : (rows fresh : List Row) (m : ℕ) (row : Row) → slice_get (rows ++ fresh) m ≡ Some row
    → (slice_get rows m ≡ Some row) ⊎ ((k : ℕ) × (slice_get fresh k ≡ Some row))
found_behind [] fresh m row is = inr (m, is)
found_behind (x ∷ rows) fresh zero row is = inl is
found_behind (x ∷ rows) fresh (suc m) row is = found_behind rows fresh m row is

pub found : (rows fresh : List Row) (n : ℕ) (state : State) (m : ℕ) (row : Row) → slice_get (with_state rows n state ++ fresh) m ≡ Some row
    → Found rows fresh n state m row
found [] fresh n state m row is = inr (inr (m, is))
found (x ∷ rows) fresh zero state zero row is = grind arith
found (x ∷ rows) fresh zero state (suc m) row is = elim (found_behind rows fresh m row is) [ inl h ↦ inl h | inr h ↦ inr (inr h) ]
found (x ∷ rows) fresh (suc n) state zero row is = inl is
found (x ∷ rows) fresh (suc n) state (suc m) row is = grind (arith, found rows fresh n state m row is)

-- each row that was there is there still, or is the changed one
pub stays : (rows fresh : List Row) (n : ℕ) (state : State) (m : ℕ) (row : Row) → slice_get rows m ≡ Some row
    → (slice_get (with_state rows n state ++ fresh) m ≡ Some row) ⊎ ((m ≡ n) × (slice_get (with_state rows n state ++ fresh) m ≡ Some (record row { state = state })))
stays [] fresh n state m row is = absurd cc
stays (x ∷ rows) fresh zero state zero row is = grind arith
stays (x ∷ rows) fresh zero state (suc m) row is = inl (kept rows m is)
  where
    kept : (rows : List Row) (m : ℕ) → slice_get rows m ≡ Some row → slice_get (rows ++ fresh) m ≡ Some row
    kept [] m is = absurd cc
    kept (x ∷ rows) zero is = is
    kept (x ∷ rows) (suc m) is = kept rows m is
stays (x ∷ rows) fresh (suc n) state zero row is = inl is
stays (x ∷ rows) fresh (suc n) state (suc m) row is = grind (arith, stays rows fresh n state m row is)

pub changed_row : (rows fresh : List Row) (n : ℕ) (state : State) (row : Row) → slice_get rows n ≡ Some row
    → slice_get (with_state rows n state ++ fresh) n ≡ Some (record row { state = state })
changed_row [] fresh n state row is = absurd cc
changed_row (x ∷ rows) fresh zero state row is = let same : x ≡ row = cc in ap (λ (r : Row). Some (record r { state = state })) same
changed_row (x ∷ rows) fresh (suc n) state row is = changed_row rows fresh n state row is

-- ---- new rows

-- the new rows wait under the row named by the event, which has ended
abbrev pub AreBelow : Option ℕ → State → List Row → Type 0
AreBelow n state fresh =
    (k : ℕ) (row : Row) → slice_get fresh k ≡ Some row → (row.parent ≡ n) × (is_idle row.state ≡ true) × (is_ended state ≡ true)

none_below : (n : Option ℕ) (e : Effect) → e.fresh ≡ [] → AreBelow n e.state e.fresh
none_below n e none k row is = absurd (let nothing : slice_get {X = Row} [] k ≡ Some row = ap (λ (rows : List Row). slice_get rows k) (sym none) ∙ is in cc)

fresh_below : (n : ℕ) (state : State) (fresh : List (ℕ × Offer)) → is_ended state ≡ true → AreBelow (Some n) state (fresh_rows n fresh)
fresh_below n state fresh ends k row is = grind (arith, from_filter_map)

abbrev pub BelowEffect : Option ℕ → Option Effect → Type 0
BelowEffect n None = Unit {0}
BelowEffect n (Some e) = AreBelow n e.state e.fresh

below_if : (n : Option ℕ) (b : Bool) (e : Effect) → AreBelow n e.state e.fresh → BelowEffect n (cond b (Some e) None)
below_if n b e h = grind arith

below_answers : (t : Table) (n : ℕ) (row : Row) (at : ℕ) (answer : FinalAnswer) → BelowEffect (Some n) (Some (answers t n row at answer))
below_answers t n row at answer = go (nat_lt answer.status 300) (nat_lt answer.status 400)
  where
    go : (a b : Bool) → BelowEffect (Some n) (Some (cond a (accepts at) (cond b (redirects n at answer (taking_at t row answer.offers)) (stores at answer))))
    go true b = none_below (Some n) (accepts at) refl
    go false true = fresh_below n (Ended (redirected at answer (taking_at t row answer.offers))) (taking_at t row answer.offers).fresh refl
    go false false = none_below (Some n) (stores at answer) refl

below_effect : (t : Table) (row : Row) (at : ℕ) (event : Event) (state : State) → BelowEffect (row_named event) (effect t row at event state)
below_effect t row at event Idle = tt
below_effect t row at event (Ended end) = tt
below_effect t row at (Ring n status) Trying = none_below (Some n) (moves (Rung false)) refl
below_effect t row at (Ring n status) (Rung cancelled) = tt
below_effect t row at (Answer n answer) Trying = below_answers t n row at answer
below_effect t row at (Answer n answer) (Rung cancelled) = below_answers t n row at answer
below_effect t row at (Timeout n) Trying = none_below (Some n) (assumed 408 at) refl
below_effect t row at (Timeout n) (Rung cancelled) = none_below (Some n) (assumed 408 at) refl
below_effect t row at (Fault n) Trying = none_below (Some n) (assumed 503 at) refl
below_effect t row at (Fault n) (Rung cancelled) = none_below (Some n) (assumed 503 at) refl
below_effect t row at (TimerC n) Trying = below_if (Some n) (is_invite t.kind) (assumed 408 at) (none_below (Some n) (assumed 408 at) refl)
below_effect t row at (TimerC n) (Rung cancelled) = below_if (Some n) (is_invite t.kind && not cancelled) (moves (Rung true)) (none_below (Some n) (moves (Rung true)) refl)
below_effect t row at (GiveUp n) Trying = tt
below_effect t row at (GiveUp n) (Rung cancelled) = below_if (Some n) cancelled (moves (Ended (Silent at))) (none_below (Some n) (moves (Ended (Silent at))) refl)
below_effect t row at Cancel Trying = tt
below_effect t row at Cancel (Rung cancelled) = tt

-- ---- the change

-- row n, which was open, goes on to this state, and these rows are added under it
pub record IsMove (t u : Table) : Type 0 where
  pub n : ℕ
  pub row : Row
  pub state : State
  pub fresh : List Row
  pub there : slice_get t.rows n ≡ Some row
  pub was_open : is_open row.state ≡ true
  pub not_idle : is_idle state ≡ false
  pub not_trying : is_trying state ≡ false
  pub rows : u.rows ≡ with_state t.rows n state ++ fresh
  pub below : AreBelow (Some n) state fresh

pub record IsClosing (t u : Table) : Type 0 where
  pub closed : u.closed ≡ true
  pub rows : u.rows ≡ t.rows

move_of : (t : Table) (n : ℕ) (row : Row) (e : Effect) → slice_get t.rows n ≡ Some row → MovesOn row.state e.state → AreBelow (Some n) e.state e.fresh
    → IsMove t (with_effect t n e)
move_of t n row e is m below = grind arith

move_at : (t u : Table) (at : ℕ) (event : Event) (n : ℕ) (row : Option Row) → row_named event ≡ Some n → slice_get t.rows n ≡ row
    → change_at t at event n row ≡ Some u → IsMove t u
move_at t u at event n None named there is = absurd cc
move_at t u at event n (Some row) named there is =
    go (effect t row at event row.state) (effect_moves t row at event row.state) (below_effect t row at event row.state) is
  where
    go : (e : Option Effect) → MovesBy row.state e → BelowEffect (row_named event) e → option_map (with_effect t n) e ≡ Some u → IsMove t u
    go None m below is = absurd cc
    go (Some e) m below is =
        let P : Option ℕ → Type 0 = λ o. AreBelow o e.state e.fresh in
        let Q : Table → Type 0 = λ v. IsMove t v in
        let made : with_effect t n e ≡ u = cc in
        subst Q made (move_of t n row e there m (subst P named below))

pub change_is : (t u : Table) (event : Event) (at : ℕ) → change t event at ≡ Some u → (IsMove t u) ⊎ (IsClosing t u)
change_is t u event at is = grind (arith, move_at)
