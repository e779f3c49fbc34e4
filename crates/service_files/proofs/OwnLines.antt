-- A text before its first line that says something, byte by byte.
use Rattle.std.proofs.Common.{◌≡◌, ◌∙◌, ◌++◌, ◌∷◌, ◌+◌, ◌<◌, ℕ, zero, suc, Bool, true, false, List, [], Option, Some, None, refl, sym, ap, arith, append_assoc, drop, length, take}
use Rattle.std.proofs.lemmas.Bool.{cond-false, cond-true}
use Rattle.std.specs.Prelude.{slice_get}
use Rattle.std.proofs.lemmas.Option.{same_Some}
use Rattle.service_files.specs.OwnLine.{begins_line, still_within, without_own, without_word}

-- ---- a byte at a place

drop_there : (bs : List ℕ) (at : ℕ) (b : ℕ) → slice_get bs at ≡ Some b → drop at bs ≡ b ∷ drop (suc at) bs
drop_there [] at b e = absurd cc
drop_there (x ∷ bs) zero b e = ap (λ (y : ℕ). y ∷ bs) (same_Some _ _ e)
drop_there (x ∷ bs) (suc at) b e = drop_there bs at b e

take_there : (bs : List ℕ) (at : ℕ) (b : ℕ) → slice_get bs at ≡ Some b → take (suc at) bs ≡ take at bs ++ b ∷ []
take_there [] at b e = absurd cc
take_there (x ∷ bs) zero b e = ap (λ (y : ℕ). y ∷ []) (same_Some _ _ e)
take_there (x ∷ bs) (suc at) b e = ap (λ (ys : List ℕ). x ∷ ys) (take_there bs at b e)

-- ---- one byte further

abbrev pub Reached : (within : Bool) (text : List ℕ) (at : ℕ) → Type 0
Reached within text at = without_own false text ≡ take at text ++ without_own within (drop at text)

module _ (within : Bool) (text : List ℕ) (at : ℕ) (b : ℕ) (there : slice_get text at ≡ Some b) (so_far : Reached within text at) where
  pub one_further : begins_line within b ≡ false → Reached (still_within within b) text (suc at)
  one_further none =
      let rest : without_own within (drop at text) ≡ b ∷ without_own (still_within within b) (drop (suc at) text) =
      ap (without_own within) (drop_there text at b there)
      ∙ cond-false (begins_line within b) (without_word (b ∷ drop (suc at) text)) (b ∷ without_own (still_within within b) (drop (suc at) text)) none in
      so_far
      ∙ ap (λ (ys : List ℕ). take at text ++ ys) rest
      ∙ sym (append_assoc (take at text) (b ∷ []) (without_own (still_within within b) (drop (suc at) text)))
      ∙ ap (λ (front : List ℕ). front ++ without_own (still_within within b) (drop (suc at) text)) (sym (take_there text at b there))

  pub line_there : begins_line within b ≡ true → without_own false text ≡ take at text ++ without_word (drop at text)
  line_there some =
      let rest : without_own within (drop at text) ≡ without_word (drop at text) =
      ap (without_own within) (drop_there text at b there)
      ∙ cond-true (begins_line within b) (without_word (b ∷ drop (suc at) text)) (b ∷ without_own (still_within within b) (drop (suc at) text)) some
      ∙ ap without_word (sym (drop_there text at b there)) in
      so_far ∙ ap (λ (ys : List ℕ). take at text ++ ys) rest

-- ---- the end

none_left : (bs : List ℕ) → drop (length bs) bs ≡ []
none_left [] = refl
none_left (b ∷ bs) = none_left bs

nothing_said : (within : Bool) → without_own within [] ≡ without_word []
nothing_said true = refl
nothing_said false = refl

pub at_end : (within : Bool) (text : List ℕ) → Reached within text (length text) → without_own false text ≡ take (length text) text ++ without_word (drop (length text) text)
at_end within text so_far =
    so_far
    ∙ ap (λ (ys : List ℕ). take (length text) text ++ ys)
    (ap (without_own within) (none_left text) ∙ nothing_said within ∙ ap without_word (sym (none_left text)))
