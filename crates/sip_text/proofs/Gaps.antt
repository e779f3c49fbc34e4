-- Cutting at the first byte that passes a test.
use Rattle.sip_text.proofs.Common.{◌≡◌, ℕ, Bool, true, false, List, [], ◌∷◌, ◌++◌, Option, Some, None, refl, ap, ◌∙◌, AllByRecursion, cond-true, cond-false, cut, arith}

abbrev pub Cut : Type 0
Cut = List ℕ × Option (List ℕ)

-- the parts, with a byte that passes between them, are the whole
abbrev pub JoinsAt : (ℕ → Bool) → List ℕ → Cut → Type 0
JoinsAt p bs (front, None) = bs ≡ front
JoinsAt p bs (front, Some back) = (b : ℕ) × (p b ≡ true) × (bs ≡ front ++ b ∷ back)

pub cut_joins_at : (p : ℕ → Bool) (bs : List ℕ) → JoinsAt p bs (cut p bs)
cut_joins_at p [] = refl
cut_joins_at p (b ∷ bs) = grind (arith, cut_joins_at p bs)

-- what was joined is cut so
pub cut_again_at : (p : ℕ → Bool) (front : List ℕ) (b : ℕ) (back : List ℕ) → AllByRecursion (λ x. p x ≡ false) front → p b ≡ true → cut p (front ++ b ∷ back) ≡ (front, Some back)
cut_again_at p [] b back h e = cond-true _ _ _ e
cut_again_at p (x ∷ front) b back h e = cond-false _ _ _ h.0 ∙ ap (λ (c : Cut). (x ∷ c.0, c.1)) (cut_again_at p front b back h.1 e)
