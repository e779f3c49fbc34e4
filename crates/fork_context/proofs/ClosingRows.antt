-- A table that closes, and one that is closed.
use Rattle.fork_context.proofs.Common.{◌≡◌, ℕ, zero, suc, ◌<◌, Bool, true, List, [], ◌∷◌, length, map, refl, ap, arith, ◌∙◌, cond, ◌&&◌, Kind, Row, Table, State, Rung, is_invite, Event, with_state, closed_state, settled, next, next_of_change}
use Rattle.fork_context.proofs.Common.{next_of_stray, closed_row, IsClosedWhole, is_ringing, gets_cancel, never_state, never_row, cancel_row, common_steps}
use Rattle.fork_context.specs.Closing.{AreClosed}

-- settling a closed table
pub settled_closed : (u : Table) → u.closed ≡ true → settled u ≡ record u { rows = map (closed_row u.kind) u.rows }
settled_closed u done = grind arith

pub closed_again : (kind : Kind) (state : State) → closed_state kind (closed_state kind state) ≡ closed_state kind state
closed_again kind state = grind arith

pub closed_rows_again : (kind : Kind) (rows : List Row) → AreClosed kind (map (closed_row kind) rows)
closed_rows_again kind [] = refl
closed_rows_again kind (row ∷ rows) =
    (λ i. let r : Row = record row { state = closed_again kind row.state i } in r ∷ closed_rows_again kind rows i)

closed_first : (kind : Kind) (row : Row) (rows : List Row) → AreClosed kind (row ∷ rows) → (closed_row kind row ≡ row) × AreClosed kind rows
closed_first kind row rows e = (cc, cc)

-- in a closed table the changed row alone may have to be closed again
pub still_closed : (kind : Kind) (rows : List Row) (n : ℕ) (state : State) → AreClosed kind rows
    → map (closed_row kind) (with_state rows n state) ≡ with_state rows n (closed_state kind state)
still_closed kind [] n state e = refl
still_closed kind (row ∷ rows) zero state e = grind arith
still_closed kind (row ∷ rows) (suc n) state e =
    let first = closed_first kind row rows e in
    grind (arith, common_steps, still_closed kind rows n state first.1)

-- a table that is closed whole stays so after an event, and one that closes is then closed whole
pub keeps_closed : (t : Table) (event : Event) (at : ℕ) → IsClosedWhole t → IsClosedWhole (next t event at)
keeps_closed t event at h = grind (arith, common_steps, next_of_stray, next_of_change, settled_closed, closed_rows_again)

-- closing is: each that rings is cancelled, and no row waits
close_in_two : (kind : Kind) (state : State) → never_state (cond (is_ringing state && is_invite kind) (Rung true) state) ≡ closed_state kind state
close_in_two kind state = grind arith

pub closed_in_two : (kind : Kind) (rows : List Row) → map never_row (map (cancel_row kind) rows) ≡ map (closed_row kind) rows
closed_in_two kind [] = refl
closed_in_two kind (row ∷ rows) = (λ i. let r : Row = record row { state = close_in_two kind row.state i } in r ∷ closed_in_two kind rows i)

-- the same row by row: the first so many of them were gone through
abbrev pub cancelled_to : ℕ → Kind → List Row → List Row
cancelled_to n kind [] = []
cancelled_to zero kind (row ∷ rows) = row ∷ rows
cancelled_to (suc n) kind (row ∷ rows) = cancel_row kind row ∷ cancelled_to n kind rows

pub none_gone : (kind : Kind) (rows : List Row) → cancelled_to 0 kind rows ≡ rows
none_gone kind [] = refl
none_gone kind (row ∷ rows) = refl

pub cancelled_all : (kind : Kind) (n : ℕ) (rows : List Row) → length rows ≡ n → cancelled_to n kind rows ≡ map (cancel_row kind) rows
cancelled_all kind n [] e = refl
cancelled_all kind zero (row ∷ rows) e = absurd (omega arith)
cancelled_all kind (suc n) (row ∷ rows) e = ap (λ (rest : List Row). cancel_row kind row ∷ rest) (cancelled_all kind n rows (omega arith))

pub cond_rows : (b : Bool) (u : Table) (rows : List Row) → cond b (record u { rows = rows }) u ≡ record u { rows = cond b rows u.rows }
cond_rows b u rows = grind arith

cond_cons : {X : Type 0} (b : Bool) (x : X) (xs ys : List X) → cond b (x ∷ xs) (x ∷ ys) ≡ x ∷ cond b xs ys
cond_cons b x xs ys = grind arith

-- one row further
pub cancelled_next : (kind : Kind) (n : ℕ) (rows : List Row) → n < length rows
    → cond (gets_cancel kind (cancelled_to n kind rows) n) (with_state (cancelled_to n kind rows) n (Rung true)) (cancelled_to n kind rows) ≡ cancelled_to (suc n) kind rows
cancelled_next kind n [] lt = absurd (omega arith)
cancelled_next kind zero (row ∷ rows) lt = grind (arith, common_steps, none_gone)
cancelled_next kind (suc n) (row ∷ rows) lt =
    cond_cons (gets_cancel kind (cancelled_to n kind rows) n) (cancel_row kind row) (with_state (cancelled_to n kind rows) n (Rung true)) (cancelled_to n kind rows)
    ∙ ap (λ (rest : List Row). cancel_row kind row ∷ rest) (cancelled_next kind n rows (omega arith))
