-- Counting and listing rows, one row at a time.
use Rattle.fork_program.proofs.Common.{◌≡◌, ℕ, suc, ◌+◌, ◌<◌, Bool, true, false, List, [], ◌∷◌, ◌++◌, length, take, sym, ap, ◌∙◌, arith, append-nil, slice_get, count_by, filter, is_row, numbers_below, common_steps}
use Rattle.std.proofs.lemmas.Option.{slice_get-get_or}
use Rattle.std.proofs.lemmas.List.Sums.{count_by_more_yes, count_by_more_no}
use Rattle.std.proofs.lemmas.List.Elements.{filter-append}
use Rattle.fork_model.specs.Table.{State, Row}

pub counted_yes : (test : State → Bool) (rows : List Row) (n : ℕ) → n < length rows → is_row test (slice_get rows n) ≡ true → count_by (λ row. test row.state) (take (n + 1) rows) ≡ count_by (λ row. test row.state) (take n rows) + 1
counted_yes test [] n lt e = absurd (omega arith)
counted_yes test (row ∷ rows) n lt e =
    count_by_more_yes (λ r. test r.state) (row ∷ rows) n row lt (sym (ap (is_row test) (slice_get-get_or (row ∷ rows) n row lt)) ∙ e)

pub counted_no : (test : State → Bool) (rows : List Row) (n : ℕ) → n < length rows → is_row test (slice_get rows n) ≡ false → count_by (λ row. test row.state) (take (n + 1) rows) ≡ count_by (λ row. test row.state) (take n rows)
counted_no test [] n lt e = absurd (omega arith)
counted_no test (row ∷ rows) n lt e =
    count_by_more_no (λ r. test r.state) (row ∷ rows) n row lt (sym (ap (is_row test) (slice_get-get_or (row ∷ rows) n row lt)) ∙ e)

pub numbers_below-more : (n : ℕ) → numbers_below (n + 1) ≡ numbers_below n ++ n ∷ []
numbers_below-more n = let e : n + 1 ≡ suc n = omega arith in ap numbers_below e

pub listed_yes : (p : ℕ → Bool) (n : ℕ) → p n ≡ true → filter p (numbers_below (n + 1)) ≡ filter p (numbers_below n) ++ n ∷ []
listed_yes p n e = grind (arith, common_steps, numbers_below-more, filter-append)

pub listed_no : (p : ℕ → Bool) (n : ℕ) → p n ≡ false → filter p (numbers_below (n + 1)) ≡ filter p (numbers_below n)
listed_no p n e = grind (arith, common_steps, numbers_below-more, filter-append, append-nil)
