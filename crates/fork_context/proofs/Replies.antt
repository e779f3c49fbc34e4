-- Which rows a reply names, by what the event changed.
use Rattle.fork_context.proofs.Common.{◌≡◌, ℕ, zero, suc, ◌+◌, ◌<◌, ◌≤◌, Bool, true, false, List, [], ◌∷◌, length, Option, Some, refl, ap, arith, ◌∙◌, sym, inl, ◌⊎◌, slice_get, Row, State, Trying, is_row, became, tried, numbers_from, true≢false}
use Rattle.fork_context.proofs.Common.{false_from_ne_true, not-true, and_left, and_right, common_steps}
use Rattle.fork_context.proofs.Numbers.{filter_none, filter_range}

pub differ : {b : Bool} → b ≡ true → b ≡ false → ⊥
differ h k = true≢false (sym h ∙ k)

-- the row behind a passed test
pub row_of_test : (test : State → Bool) (o : Option Row) → is_row test o ≡ true → (row : Row) × (o ≡ Some row) × (test row.state ≡ true)
row_of_test test o e = grind arith

-- nothing has become what nothing is now that was not before
pub became_none : (test : State → Bool) (old new : List Row)
    → ((k : ℕ) (row : Row) → slice_get new k ≡ Some row → test row.state ≡ true → is_row test (slice_get old k) ≡ true)
    → became test old new ≡ []
became_none test old new h = grind (arith, common_steps, filter_none, false_from_ne_true, row_of_test, and_left, differ, not-true, and_right)

-- the rows of a range
pub became_range : (test : State → Bool) (old new : List Row) (first count : ℕ) → first + count ≤ length new
    → ((k : ℕ) → first ≤ k → k < first + count → (is_row test (slice_get new k) ≡ true) × (is_row test (slice_get old k) ≡ false))
    → ((k : ℕ) (row : Row) → slice_get new k ≡ Some row → test row.state ≡ true → is_row test (slice_get old k) ≡ false → (first ≤ k) × (k < first + count))
    → became test old new ≡ numbers_from first count
became_range test old new first count fits all only = grind (arith, common_steps, filter_range, row_of_test, and_left, not-true, and_right)

-- ---- a group that starts

pub length-tried : (rows : List Row) (first count : ℕ) → length (tried rows first count) ≡ length rows
length-tried [] first count = refl
length-tried (row ∷ rows) zero zero = refl
length-tried (row ∷ rows) zero (suc count) = let rest : length (tried rows zero count) ≡ length rows = length-tried rows zero count in omega arith
length-tried (row ∷ rows) (suc first) count = let rest : length (tried rows first count) ≡ length rows = length-tried rows first count in omega arith

pub tried_in : (rows : List Row) (first count k : ℕ) (row : Row) → slice_get rows k ≡ Some row → first ≤ k → k < first + count
    → slice_get (tried rows first count) k ≡ Some (record row { state = Trying })
tried_in [] first count k row is lo hi = absurd cc
tried_in (x ∷ rows) zero zero k row is lo hi = absurd (let less : k < 0 + 0 = hi in omega arith)
tried_in (x ∷ rows) zero (suc count) zero row is lo hi = let same : x ≡ row = cc in ap (λ (r : Row). Some (record r { state = Trying })) same
tried_in (x ∷ rows) zero (suc count) (suc k) row is lo hi =
    tried_in rows zero count k row is (omega arith) (let less : suc k < 0 + suc count = hi in omega arith)
tried_in (x ∷ rows) (suc first) count zero row is lo hi = absurd (let le : suc first ≤ 0 = lo in omega arith)
tried_in (x ∷ rows) (suc first) count (suc k) row is lo hi =
    tried_in rows first count k row is (let le : suc first ≤ suc k = lo in omega arith) (let less : suc k < suc first + count = hi in omega arith)

-- a row of the started table: one that was there, or one of the group
pub tried_found : (rows : List Row) (first count k : ℕ) (row : Row) → slice_get (tried rows first count) k ≡ Some row
    → (slice_get rows k ≡ Some row) ⊎ ((first ≤ k) × (k < first + count) × (row.state ≡ Trying))
tried_found [] first count k row is = inl is
tried_found (x ∷ rows) zero zero k row is = inl is
tried_found (x ∷ rows) zero (suc count) zero row is = grind (arith, common_steps)
tried_found (x ∷ rows) zero (suc count) (suc k) row is = grind (arith, common_steps, tried_found rows zero count k row is)
tried_found (x ∷ rows) (suc first) count zero row is = inl is
tried_found (x ∷ rows) (suc first) count (suc k) row is = grind (arith, common_steps, tried_found rows first count k row is)
