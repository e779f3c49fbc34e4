-- The line at the front of a text, by the whole text.
use Rattle.sip_lex.proofs.Common.{◌≡◌, ℕ, List, [], ◌∷◌, ◌++◌, Option, Some, None, refl, sym, ap, subst, ◌∙◌, IfSome, IfNone, Bor, eqb-false, cut, is, behind, Lacks, seen_line, arith}
use Rattle.std.proofs.Common.{append_assoc}
use Rattle.sip_lex.specs.Line.{IsLine, ended, line_at, line_at_cut, line_of_cut, with_rest}
use Rattle.sip_lex.proofs.laws.Cuts.{cut_joins, cut_lacks, cut_again, Lacks-front, Lacks-append}

abbrev Cut : Type 0
Cut = List ℕ × Option (List ℕ)

-- the text is this line with its end, and the rest
pub record TakesLine (text line rest : List ℕ) : Type 0 where
  pub is_line : IsLine line
  pub whole : text ≡ ended line ++ rest

abbrev found : {A : Type 0} → A → Option A
found x = Some x

some_is : {A : Type 0} (x y : A) → found x ≡ found y → x ≡ y
some_is x y e = cc

inner : (text piece after line rest : List ℕ) (c : Cut) → text ≡ piece ++ 10 ∷ after → Lacks 10 piece → piece ≡ c.0 ++ behind 13 c.1 → Lacks 13 c.0 → with_rest (line_of_cut c) after ≡ Some (line, rest) → TakesLine text line rest
inner text piece after line rest (l, None) t lf p cr e = absurd cc
inner text piece after line rest (l, Some (x ∷ xs)) t lf p cr e = absurd cc
inner text piece after line rest (l, Some []) t lf p cr e =
    let pair = some_is (l, after) (line, rest) e in
    let same : l ≡ line = ap (λ (p : List ℕ × List ℕ). p.0) pair in
    let back : after ≡ rest = ap (λ (p : List ℕ × List ℕ). p.1) pair in
    let whole : text ≡ ended l ++ after = t ∙ ap (λ (x : List ℕ). x ++ 10 ∷ after) p ∙ append_assoc l (13 ∷ []) (10 ∷ after) ∙ sym (append_assoc l (13 ∷ 10 ∷ []) after) in
    record {
      is_line = subst (λ (x : List ℕ). IsLine x) same (record { no_cr = cr; no_lf = Lacks-front 10 l (13 ∷ []) (subst (λ (x : List ℕ). Lacks 10 x) p lf) });
      whole = whole ∙ ap (λ (x : List ℕ). ended x ++ after) same ∙ ap (λ (x : List ℕ). ended line ++ x) back;
    }

outer : (text line rest : List ℕ) (c : Cut) → text ≡ c.0 ++ behind 10 c.1 → Lacks 10 c.0 → line_at_cut c ≡ Some (line, rest) → TakesLine text line rest
outer text line rest (piece, None) t lf e = absurd cc
outer text line rest (piece, Some after) t lf e = inner text piece after line rest (cut (is 13) piece) t lf (cut_joins 13 piece) (cut_lacks 13 piece) e

-- what is taken as a line is one
pub line_at-takes : (text line rest : List ℕ) → line_at text ≡ Some (line, rest) → TakesLine text line rest
line_at-takes text line rest e = outer text line rest (cut (is 10) text) (cut_joins 10 text) (cut_lacks 10 text) e

-- a line with its end is taken
pub line_at-again : (line rest : List ℕ) → IsLine line → line_at (ended line ++ rest) ≡ Some (line, rest)
line_at-again line rest h =
    let regrouped : ended line ++ rest ≡ (line ++ 13 ∷ []) ++ behind 10 (Some rest) = append_assoc line (13 ∷ 10 ∷ []) rest ∙ sym (append_assoc line (13 ∷ []) (10 ∷ rest)) in
    ap line_at regrouped ∙ ap line_at_cut (cut_again 10 (line ++ 13 ∷ []) (Some rest) (Lacks-append 10 line (13 ∷ []) h.no_lf (eqb-false 13 10 refl, tt))) ∙ ap (λ c. with_rest (line_of_cut c) rest) (cut_again 13 line (Some []) h.no_cr)

pub is_found : (text : List ℕ) (r : Option (Bor (List ℕ) × Bor (List ℕ))) → seen_line r ≡ line_at text → IfSome r (λ p. IsLine p.0.now × (text ≡ ended p.0.now ++ p.1.now))
is_found text r e = grind (arith, line_at-takes)

pub is_none : (text : List ℕ) (r : Option (Bor (List ℕ) × Bor (List ℕ))) → seen_line r ≡ line_at text → IfNone r ((line rest : List ℕ) → IsLine line → text ≡ ended line ++ rest → ⊥)
is_none text r e = grind (arith, line_at-again)
