-- Parts of joined lists.
use Rattle.std.proofs.Common.{◌≡◌, ◌+◌, ◌-◌, ◌<◌, ◌≤◌, ◌↔◌, ◌==◌, ℕ, suc, Bool, true, false, List, [], ◌∷◌, ◌++◌, Result, Ok, Err, IsOk, IsTrue, OnOk, length, take, drop, min, eqb-true, refl, sym, ap, ◌∙◌, arith, length-append, length-drop}
use Rattle.std.specs.Prelude.{⊤}
use Rattle.std.proofs.lemmas.List.{append-nil, drop-drop, drop_min, length-take}
use Rattle.std.proofs.Math.Seq.{drop-append-add, take-append-add}

-- a text of which so many bytes fit behind another one
pub take_room : (old bytes : List ℕ) (room most : ℕ) → room + length old ≡ most → take most (old ++ bytes) ≡ old ++ take room bytes
take_room old bytes room most whole =
    let e : most ≡ length old + room = omega arith in
    ap (λ n. take n (old ++ bytes)) e ∙ take-append-add old bytes room

-- one may drop no more than there is, and no more than a number can say
pub drop_capped : (l : List ℕ) (written count most n : ℕ) → length l ≤ most → n ≡ length l → drop (min (min (written + count) most) n) l ≡ drop count (drop written l)
drop_capped l written count most n fits whole =
    let e : min (min (written + count) most) n ≡ min (written + count) (length l) = omega arith in
    ap (λ k. drop k l) e ∙ drop_min (written + count) l ∙ sym (drop-drop count written l)

-- what is kept where as much is handed over as there is room for
pub kept_of_room : {E : Type 0} (old bytes kept new : List ℕ) (room : ℕ) (done : Result ⊤ E) → room + length old ≡ 257 → kept ≡ take room bytes
    → (IsOk done ↔ (length old + length kept ≤ 257)) → OnOk done (new ≡ old ++ kept) → new ≡ take 257 (old ++ bytes)
kept_of_room old bytes kept new room (Ok x) whole is fits ok = ok ∙ ap (λ l. old ++ l) is ∙ sym (take_room old bytes room 257 whole)
kept_of_room old bytes kept new room (Err e) whole is fits ok =
    let short : length kept ≡ min room (length bytes) = ap length is ∙ length-take room bytes in
    let within : length old + length kept ≤ 257 = omega (arith, short, whole) in
    absurd (wrong (fits.1 within))
  where
    wrong : false ≡ true → ⊥
    wrong e = absurd cc

-- what is left of a text behind another one, of which all is written
pub left_of_text : (front text : List ℕ) (written : ℕ) → length front ≤ written → drop written (front ++ text) ≡ drop (written - length front) text ++ []
left_of_text front text written past =
    let e : written ≡ length front + (written - length front) = omega arith in
    ap (λ n. drop n (front ++ text)) e ∙ drop-append-add front text (written - length front) ∙ sym (append-nil (drop (written - length front) text))

-- all is written where no next byte is left
pub all_is_written : (left next : List ℕ) (empty : Bool) → ((rest : List ℕ) × (left ≡ next ++ rest)) → (next ≡ [] → left ≡ []) → empty ≡ (length next == 0)
    → IsTrue empty ↔ (left ≡ [])
all_is_written left [] empty front last is = (λ _. last refl, λ _. is)
all_is_written left (b ∷ bs) empty front last is =
    (λ yes. let none : length (b ∷ bs) ≡ 0 = eqb-true (length (b ∷ bs)) 0 (sym is ∙ yes) in absurd (no_zero (length bs) none), λ none. absurd (no_cons (sym front.1 ∙ none)))
  where
    no_zero : (n : ℕ) → suc n ≡ 0 → ⊥
    no_zero n e = omega arith

    no_cons : b ∷ (bs ++ front.0) ≡ [] → ⊥
    no_cons e = absurd cc
