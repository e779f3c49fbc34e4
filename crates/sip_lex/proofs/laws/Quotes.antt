-- Quoted text, by the whole text.
use Rattle.sip_lex.proofs.Common.{◌≡◌, ℕ, suc, ◌+◌, Bool, false, not, eqb, List, [], ◌∷◌, ◌++◌, length, take, drop, Option, Some, ap, subst, ◌∙◌, arith, ◌&&◌, IfSome, IfNone, Bor, cond_both, cond-true, cond-false, eqb-true, and_parts, seen_line}
use Rattle.sip_lex.proofs.Common.{quoted_len, common_steps}
use Rattle.std.proofs.lemmas.Bool.{not-true}
use Rattle.sip_lex.specs.Quoted.{IsInside, IsQuoted, closed_at, quoted_at}

abbrev ends : Bool → ℕ → Bool
ends escaped b = eqb b 34 && not escaped

abbrev escapes : Bool → ℕ → Bool
escapes escaped b = not escaped && eqb b 92

-- what stands before the place is inside, and the quote stands there
abbrev Stops : Bool → List ℕ → List ℕ → Type 0
Stops escaped front [] = Unit {0}
Stops escaped front (b ∷ rest) = IsInside escaped front × (b ≡ 34)

stops-cons : (escaped : Bool) (b : ℕ) (front rest : List ℕ) → ends escaped b ≡ false → Stops (escapes escaped b) front rest → Stops escaped (b ∷ front) rest
stops-cons escaped b front rest h s = grind arith

stops : (escaped : Bool) (bs : List ℕ) → Stops escaped (take (quoted_len escaped bs) bs) (drop (quoted_len escaped bs) bs)
stops escaped [] = tt
stops escaped (b ∷ bs) =
    let n = quoted_len (escapes escaped b) bs in
    cond_both (ends escaped b) 0 (1 + n) (λ (m : ℕ). Stops escaped (take m (b ∷ bs)) (drop m (b ∷ bs)))
    (λ e. let parts = and_parts (eqb b 34) (not escaped) e in (not-true escaped parts.1, eqb-true b 34 parts.0))
    (λ e. let k : suc n ≡ 1 + n = omega arith in subst (λ (m : ℕ). Stops escaped (take m (b ∷ bs)) (drop m (b ∷ bs))) k (stops-cons escaped b (take n bs) (drop n bs) e (stops (escapes escaped b) bs)))

abbrev Parts : Type 0
Parts = List ℕ × List ℕ

abbrev present : Parts → Option Parts
present p = Some p

some_is : (p q : Parts) → present p ≡ present q → p ≡ q
some_is p q e = cc

closed : (b : ℕ) (bs front back inside rest : List ℕ) → bs ≡ front ++ back → Stops false front back → b ≡ 34 → closed_at front back ≡ Some (inside, rest) → IsQuoted (b ∷ bs) inside rest
closed b bs front back inside rest join s is e = grind arith

-- what is cut off as quoted is quoted
pub quoted_at-takes : (text inside rest : List ℕ) → quoted_at text ≡ Some (inside, rest) → IsQuoted text inside rest
quoted_at-takes text inside rest e = grind (arith, common_steps, stops)

len_again : (escaped : Bool) (inside rest : List ℕ) → IsInside escaped inside → quoted_len escaped (inside ++ 34 ∷ rest) ≡ length inside
len_again escaped [] rest h = cond-true _ _ _ (ap (λ e. eqb 34 34 && not e) h)
len_again escaped (b ∷ inside) rest h =
    let k : 1 + length inside ≡ length (b ∷ inside) = omega arith in
    cond-false _ _ _ h.0 ∙ ap (λ n. 1 + n) (len_again (escapes escaped b) inside rest h.1) ∙ k

-- quoted text is cut off
pub quoted_at-again : (inside rest : List ℕ) → IsInside false inside → quoted_at (34 ∷ (inside ++ 34 ∷ rest)) ≡ Some (inside, rest)
quoted_at-again inside rest h = grind (arith, common_steps, len_again)

pub is_found : (text : List ℕ) (r : Option (Bor (List ℕ) × Bor (List ℕ))) → seen_line r ≡ quoted_at text → IfSome r (λ p. IsQuoted text p.0.now p.1.now)
is_found text r e = grind (arith, quoted_at-takes)

pub is_none : (text : List ℕ) (r : Option (Bor (List ℕ) × Bor (List ℕ))) → seen_line r ≡ quoted_at text → IfNone r ((inside rest : List ℕ) → IsQuoted text inside rest → ⊥)
is_none text r e = grind (arith, quoted_at-again)
