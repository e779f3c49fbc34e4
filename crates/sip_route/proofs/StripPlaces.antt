-- The first header line of a name, changed or taken away at its place.
use Rattle.sip_route.proofs.Common.{◌≡◌, ℕ, zero, suc, ◌+◌, ◌-◌, ◌<◌, List, [], ◌∷◌, ◌++◌, length, take, drop, Option, Some, None, refl, sym, ap, ◌∙◌, arith, inl, inr, append_assoc, option_map, remove, prefix_len, cases_Bool, cond-true}
use Rattle.sip_route.proofs.Common.{cond-false, is_space, trim, trim_end, trim_start, first_of, first_value, same_name, views, HeaderText, line, replaced, Own, QuotesAndAngles, Plain, cut_outside, route_name, stripped_at, stripped_headers}
use Rattle.sip_route.proofs.Common.{LineLeaves, part, common_steps}
use Rattle.std.proofs.Common.{slice_get}
use Rattle.std.proofs.lemmas.List.{take-append-drop}
use Rattle.sip_text.specs.Name.{values_of}
use Rattle.sip_via.specs.Edits.{place_of}
use Rattle.sip_via.proofs.laws.Places.{valued-replaced}
use Rattle.sip_route.specs.declared.stripping.Left.{Left}
use Rattle.sip_route.specs.declared.stripping.Left.TheVariants.{All, Nothing, Part}
use Rattle.sip_route.specs.inner.Stripping.{Leaves}

-- ---- a part of a text

-- what stands behind a comma, without the space round it
pub part-others : (whole front others rest : List ℕ) → whole ≡ front ++ 44 ∷ others → rest ≡ trim_start others → part (length whole - length rest) (length (trim_end rest)) whole ≡ trim others
part-others whole front others rest e r =
    let n = prefix_len is_space others in
    let spaces = take n others in
    let split : whole ≡ (front ++ 44 ∷ spaces) ++ trim_start others =
    e ∙ ap (λ (xs : List ℕ). front ++ 44 ∷ xs) (sym (take-append-drop n others)) ∙ sym (append_assoc front (44 ∷ spaces) (trim_start others)) in
    grind (arith, common_steps)

-- ---- the first line of the name

-- it has the first value
first_at : (name : List ℕ) (hs : List HeaderText) (x : HeaderText) → slice_get hs (place_of name hs) ≡ Some x → first_value name hs ≡ Some x.value
unfolding values_of
first_at name [] x e = absurd cc
first_at name (h ∷ hs) x e =
    let n = place_of name hs in
    let k : 1 + n ≡ suc n = omega arith in
    elim (cases_Bool (same_name name h.name)) [
      | inl same ↦
          let at : place_of name (h ∷ hs) ≡ 0 = cond-true (same_name name h.name) 0 (1 + n) same in
          let found : Some h ≡ Some x = sym (ap (λ m. slice_get (h ∷ hs) m) at) ∙ e in
          let is : h ≡ x = cc in
          ap first_of (cond-true (same_name name h.name) (h.value ∷ values_of name hs) (values_of name hs) same) ∙ ap (λ (y : HeaderText). Some y.value) is
      | inr other ↦
          let at : place_of name (h ∷ hs) ≡ suc n = cond-false (same_name name h.name) 0 (1 + n) other ∙ k in
          ap first_of (cond-false (same_name name h.name) (h.value ∷ values_of name hs) (values_of name hs) other) ∙ first_at name hs x (sym (ap (λ m. slice_get (h ∷ hs) m) at) ∙ e)
    ]

first_nowhere : (name : List ℕ) (hs : List HeaderText) → slice_get hs (place_of name hs) ≡ None → first_value name hs ≡ None
unfolding values_of
first_nowhere name [] e = refl
first_nowhere name (h ∷ hs) e =
    let n = place_of name hs in
    let k : 1 + n ≡ suc n = omega arith in
    elim (cases_Bool (same_name name h.name)) [
      | inl same ↦
          let at : place_of name (h ∷ hs) ≡ 0 = cond-true (same_name name h.name) 0 (1 + n) same in
          let found : Some h ≡ None = sym (ap (λ m. slice_get (h ∷ hs) m) at) ∙ e in
          absurd cc
      | inr other ↦
          let at : place_of name (h ∷ hs) ≡ suc n = cond-false (same_name name h.name) 0 (1 + n) other ∙ k in
          ap first_of (cond-false (same_name name h.name) (h.value ∷ values_of name hs) (values_of name hs) other) ∙ first_nowhere name hs (sym (ap (λ m. slice_get (h ∷ hs) m) at) ∙ e)
    ]

-- it is left out
replaced-none : (name : List ℕ) (hs : List HeaderText) (x : HeaderText) → slice_get hs (place_of name hs) ≡ Some x → replaced name None hs ≡ remove hs (place_of name hs)
replaced-none name [] x e = absurd cc
replaced-none name (h ∷ hs) x e =
    let n = place_of name hs in
    let k : 1 + n ≡ suc n = omega arith in
    elim (cases_Bool (same_name name h.name)) [
      | inl same ↦
          let at : place_of name (h ∷ hs) ≡ 0 = cond-true (same_name name h.name) 0 (1 + n) same in
          cond-true (same_name name h.name) hs (h ∷ replaced name None hs) same ∙ sym (ap (λ m. remove (h ∷ hs) m) at)
      | inr other ↦
          let at : place_of name (h ∷ hs) ≡ suc n = cond-false (same_name name h.name) 0 (1 + n) other ∙ k in
          cond-false (same_name name h.name) hs (h ∷ replaced name None hs) other
          ∙ ap (λ (xs : List HeaderText). h ∷ xs) (replaced-none name hs x (sym (ap (λ m. slice_get (h ∷ hs) m) at) ∙ e))
          ∙ sym (ap (λ m. remove (h ∷ hs) m) at)
    ]

-- ---- the first Route line

get-within : (hs : List HeaderText) (n : ℕ) (x : HeaderText) → slice_get hs n ≡ Some x → n < length hs
get-within [] n x e = absurd cc
get-within (h ∷ hs) zero x e = omega arith
get-within (h ∷ hs) (suc n) x e = let lt = get-within hs n x e in omega (arith, lt)

stripped-at : (own : Own) (hs : List HeaderText) (n : ℕ) (h : HeaderText) → n ≡ place_of route_name hs → slice_get hs n ≡ Some h → stripped_headers own hs ≡ stripped_at own hs (Some h.value)
stripped-at own hs n h at e = ap (stripped_at own hs) (first_at route_name hs h (ap (λ m. slice_get hs m) (sym at) ∙ e))

pub leaves-some : (own : Own) (hs : List HeaderText) (n : ℕ) (h : HeaderText) (left : Left) → n ≡ place_of route_name hs → slice_get hs n ≡ Some h → LineLeaves own h.value (cut_outside QuotesAndAngles 44 Plain h.value) left → Leaves own hs n left
leaves-some own hs n h All at e l = stripped-at own hs n h at e ∙ cond-false _ _ _ l
leaves-some own hs n h Nothing at e l = (
  get-within hs n h e,
  stripped-at own hs n h at e
      ∙ cond-true _ _ _ l.0
      ∙ ap (λ (others : Option (List ℕ)). replaced route_name (option_map trim others) hs) l.1
      ∙ replaced-none route_name hs h (ap (λ m. slice_get hs m) (sym at) ∙ e)
      ∙ sym (ap (λ m. remove hs m) at),
)
leaves-some own hs n h (Part start len) at e l = (
  get-within hs n h e,
  stripped-at own hs n h at e
      ∙ cond-true _ _ _ l.0
      ∙ ap (λ (v : Option (List ℕ)). replaced route_name v hs) l.1
      ∙ sym (valued-replaced route_name (λ (v : List ℕ). take len (drop start v)) hs n h at e),
)

pub leaves-none : (own : Own) (hs : List HeaderText) (n : ℕ) → n ≡ place_of route_name hs → slice_get hs n ≡ None → Leaves own hs n All
leaves-none own hs n at e = ap (stripped_at own hs) (first_nowhere route_name hs (ap (λ m. slice_get hs m) (sym at) ∙ e))
