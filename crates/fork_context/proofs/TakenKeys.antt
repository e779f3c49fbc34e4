-- The keys of all targets: those of the rows, and of the extras of the rows to come.
use Rattle.fork_context.proofs.Common.{◌≡◌, ℕ, ◌+◌, Bool, true, false, ◌||◌, List, [], ◌∷◌, ◌++◌, length, map, nat_eq, ap, arith, ◌∙◌, length-append, append-nil, length-map, list_any, pointwise, Row, is_known, keys_of, RowExtras, common_steps}
use Rattle.std.proofs.lemmas.List.{append_assoc, map_push}
use Rattle.std.proofs.lemmas.List.Folds.{list_any-append}
use Rattle.fork_context.proofs.PlainContacts.{list_any-map}

abbrev key_of : RowExtras → List ℕ
key_of b = b.key

abbrev all_keys : List Row → List RowExtras → List (List ℕ)
all_keys rows extras = keys_of rows ++ map (λ b. b.key) extras

abbrev has_row : List ℕ → List Row → Bool
has_row key rows = list_any (λ row. pointwise nat_eq key row.key) rows

abbrev has_row_extras : List ℕ → List RowExtras → Bool
has_row_extras key extras = list_any (λ b. pointwise nat_eq key b.key) extras

pub only_rows : (rows : List Row) (extras : List RowExtras) → extras ≡ [] → all_keys rows extras ≡ keys_of rows
only_rows rows extras none = ap (all_keys rows) none ∙ append-nil (keys_of rows)

known_there : (rows : List Row) (extras : List RowExtras) (key : List ℕ)
    → is_known (all_keys rows extras) key ≡ (has_row key rows || has_row_extras key extras)
known_there rows extras key = grind (arith, common_steps, list_any-append, list_any-map)

pub known_of_rows : (rows : List Row) (extras : List RowExtras) (key : List ℕ) (all : List (List ℕ)) (known : Bool)
    → all_keys rows extras ≡ all → known ≡ has_row key rows → known ≡ true → known ≡ is_known all key
known_of_rows rows extras key all known view e is = grind (arith, common_steps, known_there)

pub known_of_extras : (rows : List Row) (extras : List RowExtras) (key : List ℕ) (all : List (List ℕ)) (row known : Bool)
    → all_keys rows extras ≡ all → row ≡ has_row key rows → row ≡ false → known ≡ has_row_extras key extras → known ≡ is_known all key
known_of_extras rows extras key all row known view e is f = grind (arith, common_steps, known_there)

-- how many keys there are
pub sizes : (rows : List Row) (extras : List RowExtras) (all : List (List ℕ)) → all_keys rows extras ≡ all
    → length all ≡ length rows + length extras
sizes rows extras all view = grind (arith, common_steps, length-append, length-map)

pub one_more : (rows : List Row) (extras more : List RowExtras) (b : RowExtras) (all : List (List ℕ))
    → all_keys rows extras ≡ all → more ≡ extras ++ b ∷ [] → all_keys rows more ≡ all ++ b.key ∷ []
one_more rows extras more b all view is = grind (arith, common_steps, map_push, append_assoc)
