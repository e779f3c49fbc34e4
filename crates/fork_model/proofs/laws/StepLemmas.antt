-- How a table goes on: by the change of one row, by settling, by any number of events.
use Rattle.fork_model.proofs.Common.{◌≡◌, ℕ, zero, suc, ◌+◌, ◌*◌, ◌<◌, ◌≤◌, Bool, true, false, List, [], ◌∷◌, ◌++◌, length, map, Option, Some, None, refl, ap, arith, sym, subst, cond, slice_get, ◌&&◌, ◌||◌, is_none, unwrap_or, nat_lt, option_map}
use Rattle.fork_model.proofs.Common.{Row, Table, State, Ended, Accepted, is_idle, is_open, Event, FinalAnswer, Ring, Answer, Timeout, Fault, TimerC, GiveUp, Cancel, may_start, taking_at, Effect, effect, accepts, answers, redirects, stores}
use Rattle.fork_model.proofs.Common.{with_state, with_effect, change_at, change, cancelled, settled_row, settled, next, after, steps_of, progress, IsSameTarget}
use Rattle.fork_model.specs.Table.{End}
use Rattle.fork_model.specs.Steps.{rows_progress, EachRow, IsLaterState, Grows, GoesOn, RowsKeepTheirNumbers, RowsAlwaysKeepTheirNumbers, BranchesGoOn, BranchesAlwaysGoOn, EventsMakeProgress, NoEventUndoesProgress, SettlingKeepsProgress}
use Rattle.fork_model.specs.Steps.{ProgressIsBounded, PositionsAreBounded}

pub and_left : (a b : Bool) → (a && b) ≡ true → a ≡ true
and_left a b e = grind arith

pub and_right : (a b : Bool) → (a && b) ≡ true → b ≡ true
and_right a b e = grind arith

-- ---- rows

-- the same target, at least as far on
pub record Goes (row new : Row) : Type 0 where
  pub target : IsSameTarget row new
  pub state : IsLaterState row.state new.state

pub same_state : (state : State) → IsLaterState state state
same_state state = record { started = λ h. h; ended = λ h. refl; steps = omega arith }

goes_same : (row : Row) → Goes row row
goes_same row = grind arith

goes_later : (a b c : Row) → Goes a b → Goes b c → Goes a c
goes_later a b c f g = grind arith

-- each row goes on under its number, and others may follow
abbrev pub Extends : List Row → List Row → Type 0
Extends [] later = Unit {0}
Extends (row ∷ rows) [] = ⊥
Extends (row ∷ rows) (new ∷ later) = Goes row new × Extends rows later

pub extends_same : (rows : List Row) → Extends rows rows
extends_same [] = tt
extends_same (row ∷ rows) = (goes_same row, extends_same rows)

pub extends_later : (a b c : List Row) → Extends a b → Extends b c → Extends a c
extends_later [] b c f g = tt
extends_later (x ∷ a) [] c f g = absurd f
extends_later (x ∷ a) (y ∷ b) [] f g = absurd g
extends_later (x ∷ a) (y ∷ b) (z ∷ c) f g = (goes_later x y z f.0 g.0, extends_later a b c f.1 g.1)

pub extends_more : (rows later more : List Row) → Extends rows later → Extends rows (later ++ more)
extends_more [] later more f = tt
extends_more (row ∷ rows) [] more f = absurd f
extends_more (row ∷ rows) (new ∷ later) more f = (f.0, extends_more rows later more f.1)

pub extends_length : (rows later : List Row) → Extends rows later → length rows ≤ length later
extends_length [] later f = omega arith
extends_length (row ∷ rows) [] f = absurd f
extends_length (row ∷ rows) (new ∷ later) f = grind (arith, extends_length rows later f.1)

extends_progress : (rows later : List Row) → Extends rows later → rows_progress rows ≤ rows_progress later
extends_progress [] later f = omega arith
extends_progress (row ∷ rows) [] f = absurd f
extends_progress (row ∷ rows) (new ∷ later) f = grind (arith, extends_progress rows later f.1)

pub extends_row : (rows later : List Row) → Extends rows later → EachRow Goes rows later
extends_row [] later f n row is = absurd cc
extends_row (x ∷ rows) [] f n row is = absurd f
extends_row (x ∷ rows) (new ∷ later) f zero row is = grind arith
extends_row (x ∷ rows) (new ∷ later) f (suc n) row is = extends_row rows later f.1 n row is

-- ---- settling

-- only a row that waits may start
pub starts_idle : (rows : List Row) (row : Row) → may_start rows row ≡ true → is_idle row.state ≡ true
starts_idle rows row e = and_left _ _ (and_left _ _ (and_left _ _ e))

goes_settled : (t : Table) (row : Row) → Goes row (settled_row t row)
goes_settled t row = grind arith

pub extends_settled : (t : Table) (rows : List Row) → Extends rows (map (settled_row t) rows)
extends_settled t [] = tt
extends_settled t (row ∷ rows) = (goes_settled t row, extends_settled t rows)

-- ---- the event's own change

-- the effect on a row moves it on by a step at least
pub record MovesOn (state new : State) : Type 0 where
  pub was_open : is_open state ≡ true
  pub started : is_idle new ≡ false
  pub steps : steps_of state < steps_of new

later_moved : (state new : State) → MovesOn state new → IsLaterState state new
later_moved state new m = grind arith

-- a final answer ends its row
pub answers_end : (t : Table) (n : ℕ) (row : Row) (at : ℕ) (answer : FinalAnswer)
    → (end : End) × ((answers t n row at answer).state ≡ Ended end)
answers_end t n row at answer =
    elim (nat_lt answer.status 300) as (λ b. (end : End) × ((cond b (accepts at) (rest b)).state ≡ Ended end)) [
      | true ↦ (Accepted at, refl)
      | false ↦ elim (nat_lt answer.status 400) as (λ b. (end : End) × ((cond b (turned b) (stores at answer)).state ≡ Ended end)) [
        | true ↦ (_, refl)
        | false ↦ (_, refl)
      ]
    ]
  where
    turned : Bool → Effect
    turned b = redirects n at answer (taking_at t row answer.offers)

    rest : Bool → Effect
    rest b = cond (nat_lt answer.status 400) (turned b) (stores at answer)

abbrev pub MovesBy : State → Option Effect → Type 0
MovesBy state None = Unit {0}
MovesBy state (Some e) = MovesOn state e.state

pub effect_moves : (t : Table) (row : Row) (at : ℕ) (event : Event) (state : State) → MovesBy state (effect t row at event state)
effect_moves t row at event state = grind arith

pub extends_state : (rows : List Row) (n : ℕ) (row : Row) (state : State) → slice_get rows n ≡ Some row → IsLaterState row.state state
    → Extends rows (with_state rows n state)
extends_state [] n row state is h = tt
extends_state (x ∷ rows) zero row state is h = grind (arith, extends_same)
extends_state (x ∷ rows) (suc n) row state is h = (goes_same x, extends_state rows n row state is h)

progress_state : (rows : List Row) (n : ℕ) (row : Row) (state : State) → slice_get rows n ≡ Some row → steps_of row.state < steps_of state
    → rows_progress rows < rows_progress (with_state rows n state)
progress_state [] n row state is lt = absurd cc
progress_state (x ∷ rows) zero row state is lt = grind arith
progress_state (x ∷ rows) (suc n) row state is lt = grind (arith, progress_state rows n row state is lt)

-- ---- tables

-- the table goes on
pub record Onward (t u : Table) : Type 0 where
  pub kind : u.kind ≡ t.kind
  pub rules : u.rules ≡ t.rules
  pub closed : t.closed ≡ true → u.closed ≡ true
  pub rows : Extends t.rows u.rows

pub onward_same : (t : Table) → Onward t t
onward_same t = record { kind = refl; rules = refl; closed = λ h. h; rows = extends_same t.rows }

pub onward_later : (t u v : Table) → Onward t u → Onward u v → Onward t v
onward_later t u v f g = grind (arith, extends_later)

pub onward_settled : (t : Table) → Onward t (settled t)
onward_settled t = record { kind = refl; rules = refl; closed = λ h. h; rows = extends_settled t t.rows }

abbrev flag : Bool → ℕ
flag closed = cond closed 1 0

flag_kept : (a b : Bool) → (a ≡ true → b ≡ true) → cond a 1 0 ≤ cond b 1 0
flag_kept a b h = grind arith

onward_progress : (t u : Table) → Onward t u → progress t ≤ progress u
onward_progress t u f = grind (arith, extends_progress)

-- what an event that fits a case does before settling: the table goes on, by a step at least
pub record Advances (t u : Table) : Type 0 where
  pub onward : Onward t u
  pub steps : progress t < progress u

or_true : (a b : Bool) → a ≡ true → (a || b) ≡ true
or_true a b h = grind arith

rows_progress_more : (rows more : List Row) → rows_progress rows ≤ rows_progress (rows ++ more)
rows_progress_more [] more = omega arith
rows_progress_more (row ∷ rows) more = grind (arith, rows_progress_more rows more)

advances_effect : (t : Table) (n : ℕ) (row : Row) (e : Effect) → slice_get t.rows n ≡ Some row → MovesOn row.state e.state
    → Advances t (with_effect t n e)
advances_effect t n row e is m = record {
  onward = record {
    kind = refl;
    rules = refl;
    closed = or_true t.closed e.closes;
    rows = extends_more t.rows (with_state t.rows n e.state) e.fresh (extends_state t.rows n row e.state is (later_moved row.state e.state m));
  };
  steps =
      let one : rows_progress t.rows < rows_progress (with_state t.rows n e.state) = progress_state t.rows n row e.state is m.steps in
      let two : rows_progress (with_state t.rows n e.state) ≤ rows_progress (with_state t.rows n e.state ++ e.fresh) = rows_progress_more _ _ in
      let closed : cond t.closed 1 0 ≤ cond (t.closed || e.closes) 1 0 = flag_kept t.closed _ (or_true t.closed e.closes) in
      let all : rows_progress t.rows + cond t.closed 1 0 < rows_progress (with_state t.rows n e.state ++ e.fresh) + cond (t.closed || e.closes) 1 0 = omega arith in
      all;
}

advances_at : (t u : Table) (at : ℕ) (event : Event) (n : ℕ) (row : Option Row) → slice_get t.rows n ≡ row
    → change_at t at event n row ≡ Some u → Advances t u
advances_at t u at event n None there is = absurd cc
advances_at t u at event n (Some row) there is = go (effect t row at event row.state) refl is
  where
    go : (e : Option Effect) → effect t row at event row.state ≡ e → option_map (with_effect t n) e ≡ Some u → Advances t u
    go None same is = absurd cc
    go (Some e) same is =
        let P : Option Effect → Type 0 = λ o. MovesBy row.state o in
        let Q : Table → Type 0 = λ v. Advances t v in
        let made : with_effect t n e ≡ u = cc in
        subst Q made (advances_effect t n row e there (subst P same (effect_moves t row at event row.state)))

advances_cancelled : (t u : Table) → cancelled t ≡ Some u → Advances t u
advances_cancelled t u is = grind (arith, extends_same)

pub change_advances : (t u : Table) (event : Event) (at : ℕ) → change t event at ≡ Some u → Advances t u
change_advances t u (Ring n status) at is = advances_at t u at (Ring n status) n _ refl is
change_advances t u (Answer n answer) at is = advances_at t u at (Answer n answer) n _ refl is
change_advances t u (Timeout n) at is = advances_at t u at (Timeout n) n _ refl is
change_advances t u (Fault n) at is = advances_at t u at (Fault n) n _ refl is
change_advances t u (TimerC n) at is = advances_at t u at (TimerC n) n _ refl is
change_advances t u (GiveUp n) at is = advances_at t u at (GiveUp n) n _ refl is
change_advances t u Cancel at is = advances_cancelled t u is

-- the table after an event is that of its change, settled, or the same
pub next_of_change : (t u : Table) (event : Event) (at : ℕ) → change t event at ≡ Some u → next t event at ≡ settled u
next_of_change t u event at is = ap (λ (c : Option Table). unwrap_or (option_map settled c) t) is

pub next_of_stray : (t : Table) (event : Event) (at : ℕ) → change t event at ≡ None → next t event at ≡ t
next_of_stray t event at is = ap (λ (c : Option Table). unwrap_or (option_map settled c) t) is

pub next_onward : (t : Table) (event : Event) (at : ℕ) → Onward t (next t event at)
next_onward t event at = go (change t event at) refl
  where
    go : (c : Option Table) → change t event at ≡ c → Onward t (next t event at)
    go None is = let P : Table → Type 0 = λ u. Onward t u in subst P (sym (next_of_stray t event at is)) (onward_same t)
    go (Some u) is =
        let P : Table → Type 0 = λ v. Onward t v in
        subst P (sym (next_of_change t u event at is))
        (onward_later t u (settled u) (change_advances t u event at is).onward (onward_settled u))

pub after_onward : (t : Table) (at : ℕ) (events : List Event) → Onward t (after t at events)
after_onward t at [] = onward_same t
after_onward t at (event ∷ events) = grind (arith, onward_later, next_onward, after_onward (next t event at) (suc at) events)

-- ---- the laws

grows : (t u : Table) → Onward t u → Grows t u
grows t u f = grind (arith, extends_length, extends_row)

goes_on : (t u : Table) → Onward t u → GoesOn t u
goes_on t u f n row is = let new = extends_row t.rows u.rows f.rows n row is in (new.0, new.1, new.2.state)

pub rows_keep_numbers : RowsKeepTheirNumbers
rows_keep_numbers t event at = grows t (next t event at) (next_onward t event at)

pub rows_always_keep_numbers : RowsAlwaysKeepTheirNumbers
rows_always_keep_numbers t at events = grows t (after t at events) (after_onward t at events)

pub branches_go : BranchesGoOn
branches_go t event at = goes_on t (next t event at) (next_onward t event at)

pub branches_always_go : BranchesAlwaysGoOn
branches_always_go t at events = goes_on t (after t at events) (after_onward t at events)

pub event_progress : EventsMakeProgress
event_progress t event at is = go (change t event at) refl is
  where
    go : (c : Option Table) → change t event at ≡ c → is_none c ≡ false → progress t < progress (next t event at)
    go None same is = absurd cc
    go (Some u) same is =
        let first : progress t < progress u = (change_advances t u event at same).steps in
        let second : progress u ≤ progress (settled u) = onward_progress u (settled u) (onward_settled u) in
        let last : progress (next t event at) ≡ progress (settled u) = ap progress (next_of_change t u event at same) in
        omega (arith, first, second, last)

pub no_progress_undone : NoEventUndoesProgress
no_progress_undone t event at = onward_progress t (next t event at) (next_onward t event at)

pub settling_progress : SettlingKeepsProgress
settling_progress t = onward_progress t (settled t) (onward_settled t)

rows_bound : (rows : List Row) → rows_progress rows ≤ 4 * length rows
rows_bound [] = omega arith
rows_bound (row ∷ rows) = grind (arith, rows_bound rows)

pub progress_bounded : ProgressIsBounded
progress_bounded t = grind (arith, rows_bound)

pub positions_bounded : PositionsAreBounded
positions_bounded core event within = grind (arith, event_progress)
