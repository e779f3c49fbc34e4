-- A table of which every row has ended keeps its rows, whatever happens.
use Rattle.fork_model.proofs.Common.{◌≡◌, ℕ, zero, suc, Bool, true, false, List, [], ◌∷◌, map, Option, Some, None, refl, ap, cond, slice_get, ◌&&◌, unwrap_or, option_map, Row, Table, State, Trying, is_idle, is_ended, is_finished, effect, change_at}
use Rattle.fork_model.proofs.Common.{change, next, settled, settled_row, settled_state, Event, arith}
use Rattle.fork_model.proofs.laws.StepLemmas.{and_left, and_right}

-- a group may start only where its row waits
not_idle : (state kept : State) (a b c : Bool) → is_idle state ≡ false → cond (is_idle state && a && b && c) Trying kept ≡ kept
not_idle state kept a b c e = ap (λ idle. cond (idle && a && b && c) Trying kept) e

-- a row that has ended stays as it is
pub ended_same : (t : Table) (row : Row) → is_ended row.state ≡ true → settled_state t row ≡ row.state
ended_same t row e = grind arith

pub ended_rows_same : (t : Table) (rows : List Row) → is_finished rows ≡ true → map (settled_row t) rows ≡ rows
ended_rows_same t [] e = refl
ended_rows_same t (row ∷ rows) e =
    let here : settled_state t row ≡ row.state = ended_same t row (and_left (is_ended row.state) (is_finished rows) e) in
    (λ i. record row { state = here i } ∷ ended_rows_same t rows (and_right (is_ended row.state) (is_finished rows) e) i)

row_ended : (rows : List Row) (n : ℕ) (row : Row) → is_finished rows ≡ true → slice_get rows n ≡ Some row → is_ended row.state ≡ true
row_ended [] n row e is = absurd cc
row_ended (x ∷ rows) zero row e is = grind arith
row_ended (x ∷ rows) (suc n) row e is = row_ended rows n row (and_right (is_ended x.state) (is_finished rows) e) is

pub no_effect : (t : Table) (row : Row) (at : ℕ) (event : Event) (state : State) → is_ended state ≡ true → effect t row at event state ≡ None
no_effect t row at event state is = grind arith

no_change_at : (t : Table) (at : ℕ) (event : Event) (n : ℕ) (row : Option Row) → is_finished t.rows ≡ true → slice_get t.rows n ≡ row
    → change_at t at event n row ≡ None
no_change_at t at event n row f is = grind (arith, no_effect, row_ended)

-- an event that fits no case leaves the table
pub next_same : (t : Table) (event : Event) (at : ℕ) → change t event at ≡ None → next t event at ≡ t
next_same t event at is = ap (λ (c : Option Table). unwrap_or (option_map settled c) t) is

no_change : (t : Table) (at : ℕ) (event : Event) (n : ℕ) → is_finished t.rows ≡ true → change_at t at event n (slice_get t.rows n) ≡ None
no_change t at event n f = no_change_at t at event n _ f refl

pub next_finished : (t : Table) (event : Event) (at : ℕ) → is_finished t.rows ≡ true → (next t event at).rows ≡ t.rows
next_finished t event at f = grind (arith, no_change, ended_rows_same)

pub next_rules : (t : Table) (event : Event) (at : ℕ) → (next t event at).rules ≡ t.rules
next_rules t event at = grind arith
