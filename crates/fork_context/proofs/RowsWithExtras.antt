-- What is done to the rows of a tree is done to the rows of its table.
use Rattle.fork_context.proofs.Common.{◌≡◌, ℕ, zero, suc, List, [], ◌∷◌, ◌++◌, length, map, refl, ap, arith, Bool, Option, Some, slice_get, is_row, End, State, Trying, Ended, Row, with_state, plain_state, shown, plain_row}
use Rattle.fork_context.proofs.Common.{RowExtras, end_with_extras, state_with_extras, row_with_extras, with_extras, with_row_extras, tried, never_row, never_state, common_steps}

-- what is read of a state, where the extras of an end do not change it, they do not change of any state
pub state_read : {A : Type 0} (f : State → A) → ((end : End) (b : RowExtras) → f (Ended (end_with_extras end b)) ≡ f (Ended end))
    → (state : State) (b : RowExtras) → f (state_with_extras state b) ≡ f state
state_read f same state b = grind arith

-- what is read of a row, where its extras do not change it
pub row_read : {A : Type 0} (f : Option Row → A) → ((row : Row) (b : RowExtras) → f (Some (row_with_extras row b)) ≡ f (Some row))
    → (rows : List Row) (extras : List RowExtras) (n : ℕ) → f (slice_get (with_extras rows extras) n) ≡ f (slice_get rows n)
row_read f same [] extras n = refl
row_read f same (row ∷ rows) [] zero = refl
row_read f same (row ∷ rows) [] (suc n) = row_read f same rows [] n
row_read f same (row ∷ rows) (b ∷ extras) zero = same row b
row_read f same (row ∷ rows) (b ∷ extras) (suc n) = row_read f same rows extras n

pub test_with_extras : (test : State → Bool) → ((end : End) (b : RowExtras) → test (Ended (end_with_extras end b)) ≡ test (Ended end))
    → (rows : List Row) (extras : List RowExtras) (n : ℕ) → is_row test (slice_get (with_extras rows extras) n) ≡ is_row test (slice_get rows n)
test_with_extras test same = row_read (is_row test) (λ row b. state_read test same row.state b)

pub shown_extras : (state : State) (b : RowExtras) → shown (state_with_extras state b) ≡ shown state
shown_extras = grind arith

-- the rows of a table without their extras are those of its tree
pub plain_with_extras : (rows : List Row) (extras : List RowExtras) → map plain_row (with_extras rows extras) ≡ map plain_row rows
plain_with_extras [] extras = refl
plain_with_extras (row ∷ rows) [] = ap (λ (rest : List Row). plain_row row ∷ rest) (plain_with_extras rows [])
plain_with_extras (row ∷ rows) (b ∷ extras) =
    (λ i. let r : Row = record row { key = []; place = 0; state = plain_state (shown_extras row.state b i) } in r ∷ plain_with_extras rows extras i)

pub length-with_extras : (rows : List Row) (extras : List RowExtras) → length (with_extras rows extras) ≡ length rows
length-with_extras [] extras = refl
length-with_extras (row ∷ rows) [] = let rest : length (with_extras rows []) ≡ length rows = length-with_extras rows [] in omega arith
length-with_extras (row ∷ rows) (b ∷ extras) = let rest : length (with_extras rows extras) ≡ length rows = length-with_extras rows extras in omega arith

-- a state that stores no answer
abbrev pub IsPlain : State → Type 0
IsPlain state = (b : RowExtras) → state_with_extras state b ≡ state

pub with_extras_state : (rows : List Row) (extras : List RowExtras) (n : ℕ) (state : State) → IsPlain state
    → with_extras (with_state rows n state) extras ≡ with_state (with_extras rows extras) n state
with_extras_state [] extras n state plain = refl
with_extras_state (row ∷ rows) [] zero state plain = refl
with_extras_state (row ∷ rows) [] (suc n) state plain = ap (λ (rest : List Row). row ∷ rest) (with_extras_state rows [] n state plain)
with_extras_state (row ∷ rows) (b ∷ extras) zero state plain = grind arith
with_extras_state (row ∷ rows) (b ∷ extras) (suc n) state plain = ap (λ (rest : List Row). row_with_extras row b ∷ rest) (with_extras_state rows extras n state plain)

pub with_extras_tried : (rows : List Row) (extras : List RowExtras) (first count : ℕ)
    → with_extras (tried rows first count) extras ≡ tried (with_extras rows extras) first count
with_extras_tried [] extras first count = refl
with_extras_tried (row ∷ rows) [] zero zero = refl
with_extras_tried (row ∷ rows) (b ∷ extras) zero zero = refl
with_extras_tried (row ∷ rows) [] zero (suc count) = ap (λ (rest : List Row). let r : Row = record row { state = Trying } in r ∷ rest) (with_extras_tried rows [] zero count)
with_extras_tried (row ∷ rows) (b ∷ extras) zero (suc count) = grind (arith, common_steps, with_extras_tried rows extras zero count)
with_extras_tried (row ∷ rows) [] (suc first) count = ap (λ (rest : List Row). row ∷ rest) (with_extras_tried rows [] first count)
with_extras_tried (row ∷ rows) (b ∷ extras) (suc first) count = ap (λ (rest : List Row). row_with_extras row b ∷ rest) (with_extras_tried rows extras first count)

never_extras : (state : State) (b : RowExtras) → state_with_extras (never_state state) b ≡ never_state (state_with_extras state b)
never_extras state b = grind arith

pub with_extras_never : (rows : List Row) (extras : List RowExtras) → with_extras (map never_row rows) extras ≡ map never_row (with_extras rows extras)
with_extras_never [] extras = refl
with_extras_never (row ∷ rows) [] = ap (λ (rest : List Row). never_row row ∷ rest) (with_extras_never rows [])
with_extras_never (row ∷ rows) (b ∷ extras) =
    (λ i. let r : Row = record row { key = b.key; place = b.place; state = never_extras row.state b i } in r ∷ with_extras_never rows extras i)

pub with_extras_append : (rows more : List Row) (extras fresh : List RowExtras) → length extras ≡ length rows
    → with_extras (rows ++ more) (extras ++ fresh) ≡ with_extras rows extras ++ with_extras more fresh
with_extras_append [] more [] fresh same = refl
with_extras_append [] more (b ∷ extras) fresh same = absurd (omega arith)
with_extras_append (row ∷ rows) more [] fresh same = absurd (omega arith)
with_extras_append (row ∷ rows) more (b ∷ extras) fresh same =
    ap (λ (rest : List Row). row_with_extras row b ∷ rest) (with_extras_append rows more extras fresh (omega arith))

-- a row ends with an answer
pub with_extras_end : (rows : List Row) (extras : List RowExtras) (n : ℕ) (end : End) (c : RowExtras) → length extras ≡ length rows
    → with_extras (with_state rows n (Ended end)) (with_row_extras extras n c.left c.challenges) ≡ with_state (with_extras rows extras) n (Ended (end_with_extras end c))
with_extras_end [] [] n end c same = refl
with_extras_end [] (b ∷ extras) n end c same = absurd (omega arith)
with_extras_end (row ∷ rows) [] n end c same = absurd (omega arith)
with_extras_end (row ∷ rows) (b ∷ extras) zero end c same = grind arith
with_extras_end (row ∷ rows) (b ∷ extras) (suc n) end c same =
    ap (λ (rest : List Row). row_with_extras row b ∷ rest) (with_extras_end rows extras n end c (omega arith))
