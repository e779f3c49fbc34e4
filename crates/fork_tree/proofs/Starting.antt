-- The rows of a group that may start, tried one after another.
use Rattle.fork_tree.proofs.Common.{◌≡◌, ℕ, zero, suc, ◌+◌, ◌<◌, ◌≤◌, true, IsTrue, ◌-◌, List, [], ◌∷◌, Option, Some, None, slice_get, refl, ap, sym, ◌∙◌, arith, Row, is_idle, is_row, with_state, may_start_facts, Tree, IsReady, tried, there_at}
use Rattle.fork_tree.proofs.Common.{common_steps}
use Rattle.fork_model.specs.Table.{Trying}

-- ---- the rows of a group tried one after another

pub tried_none : (rows : List Row) (first : ℕ) → tried rows first 0 ≡ rows
tried_none [] first = refl
tried_none (row ∷ rows) zero = refl
tried_none (row ∷ rows) (suc first) = ap (λ r. row ∷ r) (tried_none rows first)

pub tried_more : (rows : List Row) (first count k : ℕ) → k ≡ first + count → with_state (tried rows first count) k Trying ≡ tried rows first (suc count)
tried_more [] first count k e = refl
tried_more (row ∷ rows) zero zero zero e = ap (λ r. record row { state = Trying } ∷ r) (sym (tried_none rows zero))
tried_more (row ∷ rows) zero (suc count) (suc k) e = ap (λ r. record row { state = Trying } ∷ r) (tried_more rows zero count k (omega (arith, e)))
tried_more (row ∷ rows) (suc first) count (suc k) e = ap (λ r. row ∷ r) (tried_more rows first count k (omega (arith, e)))
tried_more (row ∷ rows) first count k e = absurd (omega (arith, e))

pub tried_later : (rows : List Row) (first count k : ℕ) → first + count ≤ k → slice_get (tried rows first count) k ≡ slice_get rows k
tried_later [] first count k le = refl
tried_later (row ∷ rows) zero zero k le = refl
tried_later (row ∷ rows) zero (suc count) (suc k) le = tried_later rows zero count k (omega (arith, le))
tried_later (row ∷ rows) (suc first) count (suc k) le = tried_later rows first count k (omega (arith, le))
tried_later (row ∷ rows) first count k le = absurd (omega (arith, le))

-- ---- one row of a group after another

abbrev with_rows : Tree → List Row → Tree
with_rows t rows = record t { rows = rows }

idle_there : (o : Option Row) (row : Row) → o ≡ Some row → is_idle row.state ≡ true → IsTrue (is_row is_idle o)
idle_there None row e h = absurd cc
idle_there (Some r) row e h = grind (arith, common_steps)

pub still_waits : (rows : List Row) (first end n : ℕ) → IsReady rows first (end - first) → first ≤ n → n < end
    → IsTrue (is_row is_idle (slice_get (tried rows first (n - first)) n))
still_waits rows first end n ready low high =
    let at : (row : Row) × (slice_get rows n ≡ Some row) = there_at rows n (omega (arith, ready.within, low, high)) in
    grind (arith, common_steps, idle_there, tried_later, may_start_facts)

pub one_more : (old now new : Tree) (first n : ℕ) → first ≤ n → now ≡ record old { rows = tried old.rows first (n - first) }
    → new ≡ record now { rows = with_state now.rows n Trying } → new ≡ record old { rows = tried old.rows first (n + 1 - first) }
one_more old now new first n low e f = grind (arith, tried_more)

pub none_yet : (t : Tree) (first : ℕ) → t ≡ record t { rows = tried t.rows first (first - first) }
none_yet t first =
    let none : 0 ≡ first - first = omega arith in
    ap (with_rows t) (sym (tried_none t.rows first)) ∙ ap (λ (k : ℕ). record t { rows = tried t.rows first k }) none
