-- Texts without their escapes.
use Rattle.sip_digest.proofs.Common.{◌≡◌, ℕ, false, eqb, List, [], ◌∷◌, refl, arith, list_any, unescaped}

-- a text without a backslash is as it is
pub no_escapes : (bs : List ℕ) → list_any (λ b. eqb b 92) bs ≡ false → unescaped false bs ≡ bs
no_escapes [] h = refl
no_escapes (b ∷ bs) h = grind (arith, no_escapes bs)
