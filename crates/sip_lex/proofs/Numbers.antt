-- The number that digits spell only grows with further digits.
use Rattle.sip_lex.proofs.Common.{◌≡◌, ℕ, ◌+◌, ◌<◌, ◌≤◌, List, [], ◌∷◌, length, take, drop, get_or, fold, None, arith, take-append-drop, cond-false, number, with_digit, below, le-ltb, common_steps}
use Rattle.std.proofs.lemmas.List.Sums.{fold-append, fold_more}
use Rattle.std.proofs.Common.{Bool, true, zero, suc}
use Rattle.std.proofs.lemmas.Bool.{and_parts}
use Rattle.std.specs.List.{list_all}
use Rattle.sip_lex.specs.inner.Number.{number_if_digits, with_digit_if_one}

-- a number is at most itself with further digits
pub fold-grows : (n : ℕ) (ds : List ℕ) → n ≤ fold with_digit n ds
fold-grows n [] = omega arith
fold-grows n (d ∷ ds) = omega (arith, fold-grows (with_digit n d) ds)

-- digits whose front is too large a number are one
pub too_large : (bound : ℕ) (ds : List ℕ) (i : ℕ) → i < length ds → bound ≤ with_digit (number (take i ds)) (get_or ds i 0) → None ≡ below bound (number ds)
too_large bound ds i lt large = grind (arith, common_steps, fold_more with_digit 0 ds i 0 lt, take-append-drop (i + 1) ds, fold-append with_digit 0 (take (i + 1) ds) (drop (i + 1) ds), fold-grows, cond-false, le-ltb)

all_at : (p : ℕ → Bool) (ds : List ℕ) (i : ℕ) → i < length ds → list_all p ds ≡ true → p (get_or ds i 0) ≡ true
all_at p [] i lt all = absurd (omega arith)
all_at p (d ∷ ds) zero lt all = (and_parts (p d) (list_all p ds) all).0
all_at p (d ∷ ds) (suc i) lt all = all_at p ds i (omega arith) (and_parts (p d) (list_all p ds) all).1

-- a text whose front has no number with the next byte has none
pub stops : (ds : List ℕ) (i : ℕ) → i < length ds → with_digit_if_one (number (take i ds)) (get_or ds i 0) ≡ None → None ≡ number_if_digits ds
stops ds i lt none = grind (arith, common_steps, all_at, too_large, cond-false, le-ltb)
