-- Texts of numbers, one behind the other.
use Rattle.std.proofs.Common.{◌≡◌, ◌∙◌, ℕ, zero, suc, ◌+◌, List, [], ◌∷◌, ◌++◌, ap, append_assoc, append-nil, arith, sym}
use Rattle.std.specs.List.{flat_map, range_with_len}

one_behind : (f : ℕ → List ℕ) (from count : ℕ) → flat_map f (range_with_len from (suc count)) ≡ flat_map f (range_with_len from count) ++ f (from + count)
one_behind f from zero = append-nil (f from) ∙ ap f (let e : from ≡ from + 0 = omega arith in e)
one_behind f from (suc count) =
    ap (λ (rest : List ℕ). f from ++ rest) (one_behind f (from + 1) count)
    ∙ sym (append_assoc (f from) (flat_map f (range_with_len (from + 1) count)) (f (from + 1 + count)))
    ∙ ap (λ n. (f from ++ flat_map f (range_with_len (from + 1) count)) ++ f n) (let e : from + 1 + count ≡ from + suc count = omega arith in e)

-- what a function gives of the first numbers, of one more
one_number_more : (f : ℕ → List ℕ) (n : ℕ) → flat_map f (range_with_len 0 (n + 1)) ≡ flat_map f (range_with_len 0 n) ++ f n
one_number_more f n =
    ap (λ k. flat_map f (range_with_len 0 k)) (let e : n + 1 ≡ suc n = omega arith in e)
    ∙ one_behind f 0 n
    ∙ ap (λ m. flat_map f (range_with_len 0 n) ++ f m) (let e : 0 + n ≡ n = omega arith in e)

-- the text of one number more, behind what stood there
pub grown : (f : ℕ → List ℕ) (n : ℕ) (initial old new : List ℕ) → old ≡ initial ++ flat_map f (range_with_len 0 n) → new ≡ old ++ f n
    → new ≡ initial ++ flat_map f (range_with_len 0 (n + 1))
grown f n initial old new before is =
    is
    ∙ ap (λ (text : List ℕ). text ++ f n) before
    ∙ append_assoc initial (flat_map f (range_with_len 0 n)) (f n)
    ∙ ap (λ (text : List ℕ). initial ++ text) (sym (one_number_more f n))
