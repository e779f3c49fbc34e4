-- What a fork reads of a row, by the tree's row and its extras.
use Rattle.fork_context.proofs.Common.{◌≡◌, ℕ, zero, suc, List, [], ◌∷◌, length, Option, Some, None, refl, arith, slice_get, option_map, option_and_then, Row, stored_of, stored_at, RowRef, plain_state, row_ref, RowView, RowExtras, state_with_extras}
use Rattle.fork_context.proofs.Common.{row_with_extras, with_extras, row_shown, common_steps}

abbrev both : Option RowExtras → Option Row → Option Row
both b o = option_and_then (λ (row : Row). option_map (row_with_extras row) b) o

with_extras_at : (rows : List Row) (extras : List RowExtras) (n : ℕ) → length extras ≡ length rows
    → slice_get (with_extras rows extras) n ≡ both (slice_get extras n) (slice_get rows n)
with_extras_at [] [] n same = refl
with_extras_at [] (b ∷ extras) n same = absurd (omega arith)
with_extras_at (row ∷ rows) [] n same = absurd (omega arith)
with_extras_at (row ∷ rows) (b ∷ extras) zero same = refl
with_extras_at (row ∷ rows) (b ∷ extras) (suc n) same = with_extras_at rows extras n (omega arith)

none_both : (o : Option Row) → both None o ≡ None
none_both o = grind arith

pub map_none : {X Y : Type 0} (f : X → Y) (o : Option X) → None ≡ option_map f o → o ≡ None
map_none f o e = grind arith

-- no such row
pub none_there : (rows : List Row) (extras : List RowExtras) (m n : ℕ) → length extras ≡ length rows → None ≡ option_map (row_ref m) (slice_get rows n)
    → slice_get (with_extras rows extras) n ≡ None
none_there rows extras m n same none = grind (arith, common_steps, with_extras_at, map_none)

pub none_row_extras : (rows : List Row) (extras : List RowExtras) (n : ℕ) → length extras ≡ length rows → None ≡ slice_get extras n
    → slice_get (with_extras rows extras) n ≡ None
none_row_extras rows extras n same none = grind (arith, common_steps, with_extras_at, none_both)

-- a row, and its extras
abbrev pub IsThere : List Row → List RowExtras → ℕ → ℕ → RowRef → RowExtras → Type 0
IsThere rows extras m n r b = (row : Row) × (r ≡ row_ref m row) × (slice_get (with_extras rows extras) n ≡ Some (row_with_extras row b))

pub there : (rows : List Row) (extras : List RowExtras) (m n : ℕ) (r : RowRef) (b : RowExtras) → length extras ≡ length rows
    → Some r ≡ option_map (row_ref m) (slice_get rows n) → Some b ≡ slice_get extras n → IsThere rows extras m n r b
there rows extras m n r b same is row_extras = grind (arith, common_steps, with_extras_at)

pub answer_there : (rows : List Row) (extras : List RowExtras) (m n : ℕ) (r : RowRef) (b : RowExtras) → IsThere rows extras m n r b
    → stored_of (state_with_extras (plain_state r.state) b) ≡ stored_at (slice_get (with_extras rows extras) n)
answer_there rows extras m n r b t = grind arith

pub look_there : (rows : List Row) (extras : List RowExtras) (m n : ℕ) (r : RowRef) (b : RowExtras) → IsThere rows extras m n r b
    → Some (let v : RowView = record { row = r; place = b.place } in v) ≡ option_map (row_shown m) (slice_get (with_extras rows extras) n)
look_there rows extras m n r b t = grind arith
