-- A text without a comma or a quote is one Via value.
use Rattle.sip_build.proofs.Common.{◌≡◌, ℕ, Bool, true, false, not, eqb, List, [], ◌∷◌, refl, ap, ◌∙◌, ◌&&◌, list_all, onto_first, and_parts, Plain, Quotes, pieces_from, arith}

-- ---- bytes that begin nothing

-- neither a comma nor a quote
abbrev pub is_no_mark : ℕ → Bool
is_no_mark b = not (eqb b 44) && not (eqb b 34)

pub no_mark-class : (p : ℕ → Bool) → p 44 ≡ false → p 34 ≡ false → (b : ℕ) → p b ≡ true → is_no_mark b ≡ true
no_mark-class p no_comma no_quote b h = grind arith

-- one such byte more at the front
pub no_mark-first : (b : ℕ) (bs : List ℕ) → is_no_mark b ≡ true → pieces_from Quotes 44 Plain (b ∷ bs) ≡ onto_first b (pieces_from Quotes 44 Plain bs)
no_mark-first b bs h = grind arith

pub one-piece : (bs : List ℕ) → list_all is_no_mark bs ≡ true → pieces_from Quotes 44 Plain bs ≡ bs ∷ []
one-piece [] h = refl
one-piece (b ∷ bs) h =
    let each = and_parts (is_no_mark b) (list_all is_no_mark bs) h in
    no_mark-first b bs each.0 ∙ ap (λ (ps : List (List ℕ)). onto_first b ps) (one-piece bs each.1)
