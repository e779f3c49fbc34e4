-- A text that trimming makes no shorter has no space at its ends.
use Rattle.sip_via.proofs.Common.{◌≡◌, ℕ, eqb, List, [], length, arith, bytes_eq, bytes_eq-Decides, trim, common_steps}

empty : (xs : List ℕ) → length xs ≡ 0 → xs ≡ []
empty xs e = grind (arith, common_steps)

untouched : (bs : List ℕ) → length (trim bs) ≡ length bs → trim bs ≡ bs
untouched bs same = grind (arith, common_steps)

-- the lengths say it
pub trimmed-len : (bs : List ℕ) → eqb (length (trim bs)) (length bs) ≡ bytes_eq (trim bs) bs
trimmed-len bs = grind (arith, common_steps, bytes_eq-Decides)
