-- Parameters read from left to right are the pieces between semicolons.
use Rattle.sip_uri.proofs.Common.{◌≡◌, ℕ, Bool, true, false, cond, eqb, ltb, List, [], ◌∷◌, length, fold, Option, Some, None, refl, sym, ap, ◌∙◌, arith, ◌&&◌, list_all, cut, is, pieces, pieces_behind, pieces-cut, Begun, is_uri_byte, is_whole}
use Rattle.sip_uri.proofs.Common.{progress_after, is_full, is_param}
use Rattle.std.proofs.Math.Bool.{and-true}
use Rattle.std.proofs.lemmas.Bool.{and_right}
use Rattle.sip_uri.specs.declared.checks.Progress.{Progress}
use Rattle.sip_uri.specs.declared.checks.Progress.TheVariants.{Named, Valueless, Valued, Broken}
use Rattle.sip_uri.specs.inner.Progress.{behind_other, behind_semicolon}

abbrev Cut : Type 0
Cut = List ℕ × Option (List ℕ)

-- whether this ends a parameter of which that much was read
abbrev ends : Progress → List ℕ → Bool
ends Begun bs = is_param bs
ends Named bs = is_full (cut (is 61) bs).1
ends Valueless bs = ltb 0 (length bs)
ends Valued bs = true
ends Broken bs = false

abbrev are_read : Progress → List ℕ → Bool
are_read progress bs = is_whole (fold progress_after progress bs)

ends_nothing : (s : Progress) → ends s [] ≡ is_whole s
ends_nothing s = grind arith

abbrev full_at : Cut → Bool
full_at c = ltb 0 (length c.0) && is_full c.1

broken_stays : (b : ℕ) → progress_after Broken b ≡ Broken
broken_stays b = grind arith

broken_reads : (bs : List ℕ) → are_read Broken bs ≡ false
broken_reads [] = refl
broken_reads (b ∷ bs) = ap (λ (s : Progress). are_read s bs) (broken_stays b) ∙ broken_reads bs

-- the parts of a cut, of which the first ends a parameter
abbrev good : Progress → Cut → Bool
good s c = ends s c.0 && list_all is_param (pieces_behind 59 c.1)

abbrev wanted : Progress → List ℕ → Bool
wanted s bs = good s (cut (is 59) bs) && list_all is_uri_byte bs

whole_first : (bs : List ℕ) → list_all is_param (pieces 59 bs) ≡ good Begun (cut (is 59) bs)
whole_first bs = ap (list_all is_param) (pieces-cut 59 bs)

begins_again : (s : Progress) (bs : List ℕ) → ((t : Progress) → are_read t bs ≡ wanted t bs) → are_read (behind_semicolon s) bs ≡ (good s ([], Some bs) && list_all is_uri_byte bs)
begins_again s bs h = grind (arith, whole_first)

goes_on : (s : Progress) (b : ℕ) (bs : List ℕ) → ((t : Progress) → are_read t bs ≡ wanted t bs) → are_read (behind_other s b) bs ≡ (good s (b ∷ (cut (is 59) bs).0, (cut (is 59) bs).1) && list_all is_uri_byte bs)
goes_on s b bs h = grind arith

step : (s : Progress) (b : ℕ) (bs : List ℕ) → ((t : Progress) → are_read t bs ≡ wanted t bs) → are_read (cond (eqb b 59) (behind_semicolon s) (behind_other s b)) bs ≡ (good s (cut (is 59) (b ∷ bs)) && list_all is_uri_byte bs)
step s b bs h = grind (arith, begins_again)

reads : (s : Progress) (bs : List ℕ) → are_read s bs ≡ wanted s bs
reads s [] = sym (and-true (good s ([], None)) ∙ and-true (ends s []) ∙ ends_nothing s)
reads s (b ∷ bs) =
    elim (is_uri_byte b) as (λ t. are_read (cond t (cond (eqb b 59) (behind_semicolon s) (behind_other s b)) Broken) bs ≡ (good s (cut (is 59) (b ∷ bs)) && (t && list_all is_uri_byte bs))) [
      | true ↦ step s b bs (λ t. reads t bs)
      | false ↦ broken_reads bs ∙ sym (and_right (good s (cut (is 59) (b ∷ bs))) false refl)
    ]

pub params_read : (bs : List ℕ) → is_whole (fold progress_after Begun bs) ≡ (list_all is_param (pieces 59 bs) && list_all is_uri_byte bs)
params_read bs = reads Begun bs ∙ sym (ap (λ t. t && list_all is_uri_byte bs) (whole_first bs))
