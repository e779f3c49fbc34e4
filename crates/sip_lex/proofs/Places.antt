-- What memchr says of a place, in the words of std
use Rattle.sip_lex.proofs.Common.{◌≡◌, ℕ, Bool, List, length, Option, Some, None, arith, position_or_len, position, false_from_ne_true}
use Rattle.std.specs.Option.{unwrap_or}
use Rattle.std.proofs.lemmas.List.Sums.{position_or_len_is}
use Rattle.memchr.specs.Find.{IsFirstByte}

-- where no byte passes, the place is the length
pub none_passes : (p : ℕ → Bool) (bs : List ℕ) → IsFirstByte p bs None → position_or_len p bs ≡ length bs
none_passes p bs h = position_or_len_is p bs (length bs) 0 (omega arith) (λ k lt. false_from_ne_true _ (h k (omega arith) lt)) (λ lt. absurd (omega arith))

-- where one passes, the place is the first such
pub first_passes : (p : ℕ → Bool) (bs : List ℕ) (k : ℕ) → IsFirstByte p bs (Some k) → position_or_len p bs ≡ k
first_passes p bs k h = position_or_len_is p bs k 0 (omega (arith, h.0.high)) (λ i lt. false_from_ne_true _ (h.0.before i (omega arith) lt)) (λ lt. h.1)

pub place_is : (p : ℕ → Bool) (bs : List ℕ) (r : Option ℕ) → IsFirstByte p bs r → r ≡ position p bs
place_is p bs r h = grind (arith, none_passes, first_passes)

pub place_or : (p : ℕ → Bool) (bs : List ℕ) (r : Option ℕ) → IsFirstByte p bs r → unwrap_or r (length bs) ≡ position_or_len p bs
place_or p bs r h = grind (arith, none_passes, first_passes)
