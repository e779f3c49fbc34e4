-- The value of the first header line of a name, by the place of that line.
use Rattle.sip_build.proofs.Common.{◌≡◌, ◌∙◌, ℕ, suc, ◌+◌, List, [], ◌∷◌, ◌++◌, drop, Some, None, refl, sym, ap, arith, inl, inr, decimal, codes, cases_Bool, cond-true, cond-false, first_of, first_value, same_name, HeaderText}
use Rattle.sip_build.proofs.Common.{place_of, decimal_digit, decimal_step}
use Rattle.sip_text.specs.Name.{values_of}

-- no line has the name
first-none : (name : List ℕ) (hs : List HeaderText) → drop (place_of name hs) hs ≡ [] → first_value name hs ≡ None
unfolding values_of
first-none name [] e = refl
first-none name (h ∷ hs) e =
    let n = place_of name hs in
    let k : 1 + n ≡ suc n = omega arith in
    elim (cases_Bool (same_name name h.name)) [
      | inl same ↦
          let whole : h ∷ hs ≡ [] = sym (ap (λ m. drop m (h ∷ hs)) (cond-true (same_name name h.name) 0 (1 + n) same)) ∙ e in
          absurd cc
      | inr other ↦
          let at : place_of name (h ∷ hs) ≡ suc n = cond-false (same_name name h.name) 0 (1 + n) other ∙ k in
          ap first_of (cond-false (same_name name h.name) (h.value ∷ values_of name hs) (values_of name hs) other)
          ∙ first-none name hs (sym (ap (λ m. drop m (h ∷ hs)) at) ∙ e)
    ]

-- the first line that has it
first-some : (name : List ℕ) (hs after : List HeaderText) (x : HeaderText) → drop (place_of name hs) hs ≡ x ∷ after → first_value name hs ≡ Some x.value
unfolding values_of
first-some name [] after x e = absurd cc
first-some name (h ∷ hs) after x e =
    let n = place_of name hs in
    let k : 1 + n ≡ suc n = omega arith in
    elim (cases_Bool (same_name name h.name)) [
      | inl same ↦
          let whole : h ∷ hs ≡ x ∷ after = sym (ap (λ m. drop m (h ∷ hs)) (cond-true (same_name name h.name) 0 (1 + n) same)) ∙ e in
          let is : h ≡ x = cc in
          ap first_of (cond-true (same_name name h.name) (h.value ∷ values_of name hs) (values_of name hs) same)
          ∙ ap (λ (y : HeaderText). Some y.value) is
      | inr other ↦
          let at : place_of name (h ∷ hs) ≡ suc n = cond-false (same_name name h.name) 0 (1 + n) other ∙ k in
          ap first_of (cond-false (same_name name h.name) (h.value ∷ values_of name hs) (values_of name hs) other)
          ∙ first-some name hs after x (sym (ap (λ m. drop m (h ∷ hs)) at) ∙ e)
    ]

-- by the header lines from that place on
pub first-nowhere : (name : List ℕ) (hs : List HeaderText) (n : ℕ) → n ≡ place_of name hs → [] ≡ drop n hs → first_value name hs ≡ None
first-nowhere name hs n at b = first-none name hs (ap (λ k. drop k hs) (sym at) ∙ sym b)

pub first-there : (name : List ℕ) (hs after : List HeaderText) (x : HeaderText) (n : ℕ) → n ≡ place_of name hs → x ∷ after ≡ drop n hs → first_value name hs ≡ Some x.value
first-there name hs after x n at b = first-some name hs after x (ap (λ k. drop k hs) (sym at) ∙ sym b)

pub seventy-text : decimal 70 ≡ codes "70"
seventy-text = decimal_step 70 (omega arith) (omega arith) ∙ ap (λ (x : List ℕ). x ++ (48 ∷ [])) (decimal_digit 7 (omega arith))
