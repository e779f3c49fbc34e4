-- Up to the first mark, quote or opening bracket each byte is plain text.
use Rattle.sip_lex.proofs.Common.{◌≡◌, ℕ, suc, ◌+◌, false, not, cond, eqb, List, [], ◌∷◌, drop, refl, sym, ap, ◌∙◌, arith, inl, inr, cases_Bool, cond-false, is_byte3, Shelter, Plain, place_after, outside_len, position_or_len}
use Rattle.std.specs.Prelude.{◌||◌}
use Rattle.std.proofs.lemmas.Bool.{or_parts}

-- such a byte leaves the text behind it plain
stays_plain : (shelter : Shelter) (b : ℕ) → eqb b 34 ≡ false → eqb b 60 ≡ false → place_after shelter Plain b ≡ Plain
stays_plain shelter b quote angle = grind arith

-- the first mark outside is looked for behind the bare front alone
pub bare_front : (shelter : Shelter) (mark : ℕ) (bs : List ℕ) → position_or_len (is_byte3 mark 34 60) bs + outside_len shelter mark Plain (drop (position_or_len (is_byte3 mark 34 60) bs) bs) ≡ outside_len shelter mark Plain bs
bare_front shelter mark [] = refl
bare_front shelter mark (b ∷ bs) =
    let n = position_or_len (is_byte3 mark 34 60) bs in
    elim (cases_Bool (is_byte3 mark 34 60 b)) [
      | inl is ↦
          let none : position_or_len (is_byte3 mark 34 60) (b ∷ bs) ≡ 0 = ap (λ t. cond (not t) (1 + n) 0) is in
          let whole : 0 + outside_len shelter mark Plain (b ∷ bs) ≡ outside_len shelter mark Plain (b ∷ bs) = omega arith in
          ap (λ k. k + outside_len shelter mark Plain (drop k (b ∷ bs))) none ∙ whole
      | inr other ↦
          let both = or_parts (eqb b mark || eqb b 34) (eqb b 60) other in
          let parts = or_parts (eqb b mark) (eqb b 34) both.0 in
          let one : position_or_len (is_byte3 mark 34 60) (b ∷ bs) ≡ 1 + n = ap (λ t. cond (not t) (1 + n) 0) other in
          let k : 1 + n ≡ suc n = omega arith in
          let dropped : drop (1 + n) (b ∷ bs) ≡ drop n bs = ap (λ m. drop m (b ∷ bs)) k in
          let step : outside_len shelter mark Plain (b ∷ bs) ≡ 1 + outside_len shelter mark Plain bs = cond-false (eqb b mark) 0 (1 + outside_len shelter mark (place_after shelter Plain b) bs) parts.0 ∙ ap (λ place. 1 + outside_len shelter mark place bs) (stays_plain shelter b parts.1 both.1) in
          let grouped : (1 + n) + outside_len shelter mark Plain (drop n bs) ≡ 1 + (n + outside_len shelter mark Plain (drop n bs)) = omega arith in
          ap (λ m. m + outside_len shelter mark Plain (drop m (b ∷ bs))) one
          ∙ ap (λ (x : List ℕ). (1 + n) + outside_len shelter mark Plain x) dropped
          ∙ grouped
          ∙ ap (λ m. 1 + m) (bare_front shelter mark bs)
          ∙ sym step
    ]

-- the same at a place that is named
pub bare_then : (shelter : Shelter) (mark : ℕ) (bs : List ℕ) (n : ℕ) → n ≡ position_or_len (is_byte3 mark 34 60) bs → n + outside_len shelter mark Plain (drop n bs) ≡ outside_len shelter mark Plain bs
bare_then shelter mark bs n e = ap (λ k. k + outside_len shelter mark Plain (drop k bs)) e ∙ bare_front shelter mark bs
