-- The change of the row that an event names, as the tree shows that row.
use Rattle.fork_context.proofs.Common.{◌≡◌, ℕ, Bool, true, Option, Some, None, ap, slice_get, option_map, is_row, Row, Table, effect, with_effect, change_at, RowRef, plain_state, ref_shown, tree_row, may_take, State, Trying, Rung, Event, shown}
use Rattle.fork_context.proofs.Common.{plain_row, arith, common_steps}
use Rattle.fork_context.proofs.ForkReads.{map_none}
use Rattle.fork_context.specs.declared.effect.Effect as declared

-- what an event does to a row does not hang on its extras
by_event : (t : Table) (row : Row) (at : ℕ) (event : Event)
    → (effect t (plain_row row) at event Trying ≡ effect t row at event Trying)
    × ((cancelled : Bool) → effect t (plain_row row) at event (Rung cancelled) ≡ effect t row at event (Rung cancelled))
by_event t row at event = grind arith

-- there is no such row
pub no_row : (t : Table) (event : Event) (at n : ℕ) → None ≡ option_map (ref_shown n) (slice_get t.rows n) → change_at t at event n (slice_get t.rows n) ≡ None
no_row t event at n none = ap (change_at t at event n) (map_none (ref_shown n) (slice_get t.rows n) none)

pub change_of_row : (t : Table) (event : Event) (at n : ℕ) (r : RowRef) (o : Option Row) → Some r ≡ option_map (ref_shown n) o
    → change_at t at event n o ≡ option_map (with_effect t r.no) (effect t (tree_row r) at event (plain_state r.state))
change_of_row t event at n r o is = grind arith

may_take_plain : {A : Type 0} (e : declared.Effect A) (state : State) → may_take e (plain_state (shown state)) ≡ may_take e state
may_take_plain e state = grind arith

pub may_of_row : {A : Type 0} (t : Table) (n : ℕ) (r : RowRef) (e : declared.Effect A) → Some r ≡ option_map (ref_shown n) (slice_get t.rows n)
    → may_take e (plain_state r.state) ≡ true → is_row (may_take e) (slice_get t.rows r.no) ≡ true
may_of_row t n r e is may = grind (arith, common_steps, may_take_plain)
