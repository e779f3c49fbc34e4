-- Cutting at the first mark.
use Rattle.sip_lex.proofs.Common.{◌≡◌, ℕ, ◌+◌, Bool, true, false, cond, ltb, List, [], ◌∷◌, ◌++◌, length, take, drop, Option, Some, None, refl, sym, ap, ◌∙◌, arith, position, list_all, lt-ltb, cond-true, cond-false, eq-eqb, and_parts, false≢true}
use Rattle.sip_lex.proofs.Common.{cut, is, behind, Lacks, common_steps}
use Rattle.std.proofs.lemmas.Bool.{ne_eqb}

abbrev Cut : Type 0
Cut = List ℕ × Option (List ℕ)

-- what `position` says is where the cut is
abbrev pub cut_at : Option ℕ → List ℕ → Cut
cut_at None bs = (bs, None)
cut_at (Some i) bs = (take i bs, Some (drop (i + 1) bs))

abbrev at_place : ℕ → List ℕ → Cut
at_place n bs = cut_at (cond (ltb n (length bs)) (Some n) None) bs

next : (p : ℕ → Bool) (b : ℕ) (bs : List ℕ) (n : ℕ) → cut p bs ≡ at_place n bs → (b ∷ (cut p bs).0, (cut p bs).1) ≡ at_place (1 + n) (b ∷ bs)
next p b bs n h = grind arith

first : (b : ℕ) (bs : List ℕ) → ([], Some bs) ≡ at_place 0 (b ∷ bs)
first b bs = sym (ap (λ t. cut_at (cond t (Some 0) None) (b ∷ bs)) (lt-ltb 0 (length (b ∷ bs)) (omega arith)))

pub cut-position : (p : ℕ → Bool) (bs : List ℕ) → cut p bs ≡ cut_at (position p bs) bs
cut-position p [] = refl
cut-position p (b ∷ bs) = grind (arith, common_steps, cut-position p bs)

-- the parts, with the mark between them, are the whole
pub cut_joins : (mark : ℕ) (bs : List ℕ) → bs ≡ (cut (is mark) bs).0 ++ behind mark (cut (is mark) bs).1
cut_joins mark [] = refl
cut_joins mark (b ∷ bs) = grind (arith, cut_joins mark bs)

-- the front lacks the mark
pub cut_lacks : (mark : ℕ) (bs : List ℕ) → Lacks mark (cut (is mark) bs).0
cut_lacks mark [] = tt
cut_lacks mark (b ∷ bs) = grind (arith, cut_lacks mark bs)

-- what was joined is cut so
pub cut_again : (mark : ℕ) (front : List ℕ) (back : Option (List ℕ)) → Lacks mark front → cut (is mark) (front ++ behind mark back) ≡ (front, back)
cut_again mark [] None h = refl
cut_again mark [] (Some back) h = cond-true _ _ _ (eq-eqb mark mark refl)
cut_again mark (b ∷ front) back h = cond-false _ _ _ (ne_eqb b mark h.0) ∙ ap (λ (r : Cut). (b ∷ r.0, r.1)) (cut_again mark front back h.1)

-- the mark is in no front, and not behind one, of a text that lacks it
pub Lacks-front : (mark : ℕ) (xs ys : List ℕ) → Lacks mark (xs ++ ys) → Lacks mark xs
Lacks-front mark [] ys h = tt
Lacks-front mark (x ∷ xs) ys h = (h.0, Lacks-front mark xs ys h.1)

pub Lacks-back : (mark : ℕ) (xs ys : List ℕ) → Lacks mark (xs ++ ys) → Lacks mark ys
Lacks-back mark [] ys h = h
Lacks-back mark (x ∷ xs) ys h = Lacks-back mark xs ys h.1

pub Lacks-append : (mark : ℕ) (xs ys : List ℕ) → Lacks mark xs → Lacks mark ys → Lacks mark (xs ++ ys)
Lacks-append mark [] ys h k = k
Lacks-append mark (x ∷ xs) ys h k = (h.0, Lacks-append mark xs ys h.1 k)

-- bytes that all pass a test lack a byte that doesn't
pub Lacks-pass : (p : ℕ → Bool) (mark : ℕ) (bs : List ℕ) → p mark ≡ false → list_all p bs ≡ true → Lacks mark bs
Lacks-pass p mark [] fails h = tt
Lacks-pass p mark (b ∷ bs) fails h =
    let parts = and_parts (p b) (list_all p bs) h in
    (λ e. false≢true (sym fails ∙ ap p (sym e) ∙ parts.0), Lacks-pass p mark bs fails parts.1)
