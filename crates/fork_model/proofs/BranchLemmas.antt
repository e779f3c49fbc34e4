-- What an open branch takes, and what is left of it by the events of others.
use Rattle.fork_model.proofs.Common.{◌≡◌, ℕ, Bool, true, Option, Some, None, refl, ap, ◌∙◌, sym, subst, cond, slice_get, Row, Table, State, Trying, is_idle, is_open, is_row, Event, row_named, may_start, change_at, change, closed_state, settled_row}
use Rattle.fork_model.proofs.Common.{settled, next, arith}
use Rattle.fork_model.specs.OpenBranches.{is_at, IsLeftAt, EventsFitOrStray, FittingEventsAreTaken, OthersAreLeft, OthersStayOpen}
use Rattle.fork_model.proofs.laws.StepLemmas.{next_of_change, next_of_stray, starts_idle}
use Rattle.fork_model.proofs.laws.ChangeLemmas.{stays}
use Rattle.fork_model.proofs.laws.SeriesLemmas.{settled_there}

-- ---- what fits

pub fit_or_stray : EventsFitOrStray
fit_or_stray t event at = grind arith

pub fitting_taken : FittingEventsAreTaken
fitting_taken core event is = grind arith

-- ---- what is left

left_as_it_is : (t : Table) (state : State) → IsLeftAt t state state
left_as_it_is t state = grind arith

-- by settling
left_settled : (u : Table) (state : State) (closed start : Bool) → u.closed ≡ closed → (start ≡ true → is_idle state ≡ true)
    → IsLeftAt (settled u) state (cond closed (closed_state u.kind state) (cond start Trying state))
left_settled u state closed start is h = grind arith

there_at : (t u : Table) (at : ℕ) (event : Event) (m n : ℕ) (o : Option Row) (row : Row) → (m ≡ n → ⊥) → slice_get t.rows n ≡ Some row
    → change_at t at event m o ≡ Some u → slice_get u.rows n ≡ Some row
there_at t u at event m n o row differ is made = grind (arith, stays)

-- by the event's own change nothing
there_still : (t u : Table) (event : Event) (at n : ℕ) (row : Row) → (row_named event ≡ Some n → ⊥) → slice_get t.rows n ≡ Some row
    → change t event at ≡ Some u → slice_get u.rows n ≡ Some row
there_still t u event at n row other is made = grind (arith, there_at)

abbrev LeftIn : Table → ℕ → Row → Type 0
LeftIn v n row = (new : Row) × (slice_get v.rows n ≡ Some new) × IsLeftAt v row.state new.state

pub others_left : OthersAreLeft
others_left t event at n row other is = go (change t event at) refl
  where
    go : (c : Option Table) → change t event at ≡ c → LeftIn (next t event at) n row
    go None made =
        let P : Table → Type 0 = λ v. LeftIn v n row in
        subst P (sym (next_of_stray t event at made)) (row, is, left_as_it_is t row.state)
    go (Some u) made =
        let P : Table → Type 0 = λ v. LeftIn v n row in
        subst P (sym (next_of_change t u event at made)) (
          settled_row u row,
          settled_there u u.rows n row (there_still t u event at n row other is made),
          left_settled u row.state u.closed (may_start u.rows row) refl (starts_idle u.rows row),
        )

open_left : (t : Table) (state new : State) → IsLeftAt t state new → is_open state ≡ true → is_open new ≡ true
open_left t state new left is = grind arith

pub others_open : OthersStayOpen
others_open t event at n other is = go (slice_get t.rows n) refl is
  where
    go : (o : Option Row) → slice_get t.rows n ≡ o → is_row is_open o ≡ true → is_at is_open (next t event at) n ≡ true
    go None there is = absurd cc
    go (Some row) there is =
        let left = others_left t event at n row other there in
        ap (is_row is_open) left.1 ∙ open_left (next t event at) row.state left.0.state left.2 is
