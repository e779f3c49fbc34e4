-- Reading the numbers of a list, one cut at a time; more of them than may be preferred are no such list.
use Rattle.fork_rank.proofs.TextCommon.{◌≡◌, ℕ, ◌<◌, List, [], ◌∷◌, ◌++◌, length, Option, Some, None, arith, option_and_then, slice_split, length-append, cut, is, plain_number_within, pieces_behind, numbers_onto, preferred_if}
use Rattle.fork_rank.proofs.laws.Pieces.{pieces-cut}

-- a piece that is no number, and one that is
pub none : (numbers rest digits : List ℕ) (more : Option (List ℕ)) → (digits, more) ≡ cut (is 44) rest → plain_number_within 499 digits ≡ None → numbers_onto numbers (slice_split (is 44) rest) ≡ None
none numbers rest digits more e nothing = grind (arith, pieces-cut)

pub next : (numbers rest digits : List ℕ) (more : Option (List ℕ)) (n : ℕ) → (digits, more) ≡ cut (is 44) rest → plain_number_within 499 digits ≡ Some n → numbers_onto numbers (slice_split (is 44) rest) ≡ numbers_onto (numbers ++ n ∷ []) (pieces_behind 44 more)
next numbers rest digits more n e some = grind (arith, pieces-cut)

-- too many
not_preferred : (xs : List ℕ) → 16 < length xs → preferred_if xs ≡ None
not_preferred xs many = grind arith

with_more : (o : Option ℕ) (f : ℕ → Option (List ℕ)) → ((n : ℕ) → option_and_then preferred_if (f n) ≡ None) → option_and_then preferred_if (option_and_then f o) ≡ None
with_more o f never = grind arith

pub too_many : (xs : List ℕ) (pieces : List (List ℕ)) → 16 < length xs → option_and_then preferred_if (numbers_onto xs pieces) ≡ None
too_many xs [] many = not_preferred xs many
too_many xs (piece ∷ pieces) many =
    with_more (plain_number_within 499 piece) (λ n. numbers_onto (xs ++ n ∷ []) pieces)
    (λ n. too_many (xs ++ n ∷ []) pieces (omega (arith, length-append xs (n ∷ []))))
