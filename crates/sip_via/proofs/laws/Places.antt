-- Header lines round the first of a name.
use Rattle.sip_via.proofs.Common.{◌≡◌, ℕ, zero, suc, ◌+◌, ◌<◌, ◌≤◌, false, List, [], ◌∷◌, ◌++◌, length, take, drop, Option, Some, refl, sym, ap, ◌∙◌, arith, inl, inr, cases_Bool, cond-true, cond-false, same_name, slice_get, valued_at}
use Rattle.sip_via.proofs.Common.{HeaderText, begins_named, line, line_if_any, place_of, replaced, changed_first, common_steps}

-- no line has the name
pub replaced-none : (name : List ℕ) (value : Option (List ℕ)) (hs : List HeaderText) → drop (place_of name hs) hs ≡ [] → replaced name value hs ≡ take (place_of name hs) hs
replaced-none name value [] e = refl
replaced-none name value (h ∷ hs) e =
    let n = place_of name hs in
    let k : 1 + n ≡ suc n = omega arith in
    elim (cases_Bool (same_name name h.name)) [
      | inl same ↦
          let whole : h ∷ hs ≡ [] = sym (ap (λ m. drop m (h ∷ hs)) (cond-true (same_name name h.name) 0 (1 + n) same)) ∙ e in
          absurd cc
      | inr other ↦
          let at : place_of name (h ∷ hs) ≡ suc n = cond-false (same_name name h.name) 0 (1 + n) other ∙ k in
          cond-false (same_name name h.name) (line_if_any h.name value ++ hs) (h ∷ replaced name value hs) other
          ∙ ap (λ (xs : List HeaderText). h ∷ xs) (replaced-none name value hs (sym (ap (λ m. drop m (h ∷ hs)) at) ∙ e))
          ∙ sym (ap (λ m. take m (h ∷ hs)) at)
    ]

first_is : (h x : HeaderText) (hs xs : List HeaderText) → h ∷ hs ≡ x ∷ xs → (h ≡ x) × (hs ≡ xs)
first_is h x hs xs e = (cc, cc)

-- the first line that has it
pub replaced-some : (name : List ℕ) (value : Option (List ℕ)) (hs after : List HeaderText) (x : HeaderText) → drop (place_of name hs) hs ≡ x ∷ after → replaced name value hs ≡ take (place_of name hs) hs ++ (line_if_any x.name value ++ after)
replaced-some name value [] after x e = absurd cc
replaced-some name value (h ∷ hs) after x e =
    let n = place_of name hs in
    let k : 1 + n ≡ suc n = omega arith in
    elim (cases_Bool (same_name name h.name)) [
      | inl same ↦
          let at : place_of name (h ∷ hs) ≡ 0 = cond-true (same_name name h.name) 0 (1 + n) same in
          let both = first_is h x hs after (sym (ap (λ m. drop m (h ∷ hs)) at) ∙ e) in
          cond-true (same_name name h.name) (line_if_any h.name value ++ hs) (h ∷ replaced name value hs) same
          ∙ ap (λ (y : HeaderText). line_if_any y.name value ++ hs) both.0
          ∙ ap (λ (ys : List HeaderText). line_if_any x.name value ++ ys) both.1
          ∙ sym (ap (λ m. take m (h ∷ hs) ++ (line_if_any x.name value ++ after)) at)
      | inr other ↦
          let at : place_of name (h ∷ hs) ≡ suc n = cond-false (same_name name h.name) 0 (1 + n) other ∙ k in
          cond-false (same_name name h.name) (line_if_any h.name value ++ hs) (h ∷ replaced name value hs) other
          ∙ ap (λ (xs : List HeaderText). h ∷ xs) (replaced-some name value hs after x (sym (ap (λ m. drop m (h ∷ hs)) at) ∙ e))
          ∙ sym (ap (λ m. take m (h ∷ hs) ++ (line_if_any x.name value ++ after)) at)
    ]

-- ---- the place, line by line

pub place-later : (name : List ℕ) (hs : List HeaderText) (i : ℕ) → i < length hs → begins_named name (drop i hs) ≡ false → place_of name (drop i hs) ≡ 1 + place_of name (drop (i + 1) hs)
place-later name [] i lt b = absurd (omega arith)
place-later name (h ∷ hs) zero lt b = cond-false _ _ _ b
place-later name (h ∷ hs) (suc i) lt b =
    place-later name hs i (omega arith) b ∙ ap (λ n. 1 + place_of name (drop n (h ∷ hs))) (let k : suc (i + 1) ≡ suc i + 1 = omega arith in k)

split : (name : List ℕ) (value : Option (List ℕ)) (hs back : List HeaderText) → drop (place_of name hs) hs ≡ back → take (place_of name hs) hs ++ changed_first value back ≡ replaced name value hs
split name value hs back e = grind (arith, common_steps, replaced-none, replaced-some)

pub replaced-split : (name : List ℕ) (value : Option (List ℕ)) (hs front back : List HeaderText) (n : ℕ) → n ≡ place_of name hs → front ≡ take n hs → back ≡ drop n hs → front ++ changed_first value back ≡ replaced name value hs
replaced-split name value hs front back n at f b = grind (arith, common_steps, split)

-- ---- another value in that line

pub valued-replaced : (name : List ℕ) (change : List ℕ → List ℕ) (hs : List HeaderText) (n : ℕ) (x : HeaderText) → n ≡ place_of name hs → slice_get hs n ≡ Some x → valued_at change n hs ≡ replaced name (Some (change x.value)) hs
valued-replaced name change [] n x at is = absurd cc
valued-replaced name change (h ∷ hs) zero x at is =
    elim (cases_Bool (same_name name h.name)) [
      | inl same ↦
          let first : h ≡ x = cc in
          ap (λ (y : HeaderText). line h.name (change y.value) ∷ hs) first
          ∙ sym (cond-true (same_name name h.name) (line h.name (change x.value) ∷ hs) (h ∷ replaced name (Some (change x.value)) hs) same)
      | inr other ↦ let k : 0 ≡ 1 + place_of name hs = at ∙ cond-false (same_name name h.name) 0 (1 + place_of name hs) other in absurd (omega (arith, k))
    ]
valued-replaced name change (h ∷ hs) (suc i) x at is =
    let n = place_of name hs in
    elim (cases_Bool (same_name name h.name)) [
      | inl same ↦ let k : suc i ≡ 0 = at ∙ cond-true (same_name name h.name) 0 (1 + n) same in absurd (omega (arith, k))
      | inr other ↦
          let k : suc i ≡ 1 + n = at ∙ cond-false (same_name name h.name) 0 (1 + n) other in
          let place : i ≡ n = omega (arith, k) in
          ap (λ (xs : List HeaderText). h ∷ xs) (valued-replaced name change hs i x place is)
          ∙ sym (cond-false (same_name name h.name) (line h.name (change x.value) ∷ hs) (h ∷ replaced name (Some (change x.value)) hs) other)
    ]

-- a line stands at each place below the length
pub line-there : (hs : List HeaderText) (n : ℕ) → n < length hs → (x : HeaderText) × (slice_get hs n ≡ Some x)
line-there [] n lt = absurd (omega arith)
line-there (h ∷ hs) zero lt = (h, refl)
line-there (h ∷ hs) (suc n) lt = line-there hs n (omega arith)

pub set-replaced : (name v : List ℕ) (hs : List HeaderText) (n : ℕ) → n ≡ place_of name hs → n < length hs → valued_at (λ _. v) n hs ≡ replaced name (Some v) hs
set-replaced name v hs n at lt =
    let there = line-there hs n lt in
    valued-replaced name (λ (_ : List ℕ). v) hs n there.0 at there.1

-- no line has the name
pub replaced-nowhere : (name v : List ℕ) (hs : List HeaderText) (n : ℕ) → n ≡ place_of name hs → length hs ≤ n → hs ≡ replaced name (Some v) hs
replaced-nowhere name v hs n at le = grind (arith, common_steps, replaced-none)
