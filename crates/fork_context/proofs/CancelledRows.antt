-- A table closes row by row.
use Rattle.fork_context.proofs.Common.{◌≡◌, ℕ, zero, suc, ◌+◌, ◌<◌, List, [], ◌∷◌, ◌++◌, length, refl, add-one, slice_get, filter, Kind, Row, Table, numbers_below, gets_cancel, number_if, cancelled_at, common_steps, arith}
use Rattle.fork_context.proofs.Numbers.{one_more}
use Rattle.fork_context.proofs.ClosingRows.{cancelled_to, cond_rows, cancelled_next}

-- a row not gone through yet is as it was
pub untouched : (kind : Kind) (rows : List Row) (n : ℕ) → slice_get (cancelled_to n kind rows) n ≡ slice_get rows n
untouched kind [] n = refl
untouched kind (row ∷ rows) zero = refl
untouched kind (row ∷ rows) (suc n) = untouched kind rows n

-- ---- the loop over the rows

abbrev pub gone_to : Table → ℕ → Table
gone_to t n = record t { rows = cancelled_to n t.kind t.rows }

gets_same : (t s : Table) (n : ℕ) → s ≡ gone_to t n → gets_cancel s.kind s.rows n ≡ gets_cancel t.kind t.rows n
gets_same t s n e = grind (arith, common_steps, untouched)

-- one row further
pub rows_next : (t s v : Table) (n : ℕ) → s ≡ gone_to t n → n < length t.rows → v ≡ cancelled_at n s → v ≡ gone_to t (n + 1)
rows_next t s v n e lt is = grind (arith, common_steps, cond_rows, cancelled_to, cancelled_next, add-one)

pub numbers_next : (t s : Table) (n : ℕ) (now after : List ℕ) → s ≡ gone_to t n → now ≡ filter (gets_cancel t.kind t.rows) (numbers_below n)
    → after ≡ now ++ number_if (gets_cancel s.kind s.rows n) n → after ≡ filter (gets_cancel t.kind t.rows) (numbers_below (n + 1))
numbers_next t s n now after e so_far is = grind (arith, common_steps, gets_same, add-one, one_more)
