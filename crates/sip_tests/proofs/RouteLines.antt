-- The first Route line of a message, changed or taken away at its place.
use Rattle.sip_route.proofs.Common.{◌≡◌, ℕ, zero, suc, ◌+◌, ◌<◌, List, [], ◌∷◌, length, take, drop, None, Some, refl, sym, ap, subst, ◌∙◌, arith, inl, inr, true, remove, codes, cases_Bool, cond-true, cond-false, same_name, HeaderText, MessageText, IsMessage, replaced, with_headers}
use Rattle.std.proofs.Common.{slice_get}
use Rattle.sip_text.specs.Change.{valued_at, with_value_at, with_part_at, without_line_at}
use Rattle.sip_text.specs.Message.{is_value}
use Rattle.sip_via.specs.Edits.{place_of}
use Rattle.sip_via.proofs.laws.Places.{set-replaced, valued-replaced, line-there}
use Rattle.sip_via.proofs.laws.Replaced.{with_route-good}

-- another value is there
put : (m : MessageText) (v : List ℕ) (n : ℕ) → IsMessage m → n ≡ place_of (codes "route") m.headers → n < length m.headers → is_value v ≡ true → IsMessage (with_value_at n v m)
put m v n good at lt value =
    subst (λ (hs : List HeaderText). IsMessage (with_headers m hs)) (sym (set-replaced (codes "route") v m.headers n at lt)) (with_route-good m (Some v) good value)

put-good : (m : MessageText) (v : List ℕ) (hs : List HeaderText) (n : ℕ) → IsMessage m → hs ≡ m.headers → n ≡ place_of (codes "route") hs → n < length hs → is_value v ≡ true → IsMessage (with_value_at n v m)
put-good m v hs n good is at lt value = put m v n good (at ∙ ap (place_of (codes "route")) is) (subst (λ (xs : List HeaderText). n < length xs) is lt) value

pub third-good : (m : MessageText) (hs : List HeaderText) (n : ℕ) → IsMessage m → hs ≡ m.headers → n ≡ place_of (codes "route") hs → n < length hs → IsMessage (with_value_at n (codes "<sip:c;lr>") m)
third-good m hs n good is at lt = put-good m (codes "<sip:c;lr>") hs n good is at lt refl

-- a part of the value is there
part : (m : MessageText) (x : HeaderText) (start len n : ℕ) → IsMessage m → n ≡ place_of (codes "route") m.headers → slice_get m.headers n ≡ Some x → is_value (take len (drop start x.value)) ≡ true → IsMessage (with_part_at n start len m)
part m x start len n good at is value =
    subst (λ (hs : List HeaderText). IsMessage (with_headers m hs)) (sym (valued-replaced (codes "route") (λ (v : List ℕ). take len (drop start v)) m.headers n x at is)) (with_route-good m (Some (take len (drop start x.value))) good value)

part-good : (m : MessageText) (x : HeaderText) (hs : List HeaderText) (start len n : ℕ) → IsMessage m → hs ≡ m.headers → n ≡ place_of (codes "route") hs → slice_get hs n ≡ Some x → is_value (take len (drop start x.value)) ≡ true → IsMessage (with_part_at n start len m)
part-good m x hs start len n good is at there value = part m x start len n good (at ∙ ap (place_of (codes "route")) is) (sym (ap (λ (xs : List HeaderText). slice_get xs n) is) ∙ there) value

pub second-good : (m : MessageText) (hs : List HeaderText) (n : ℕ) → IsMessage m → hs ≡ m.headers → n ≡ place_of (codes "route") hs
    → (x : HeaderText) × (slice_get hs n ≡ Some x) × (x.value ≡ codes "<sip:a;lr>, <sip:b;lr>") → IsMessage (with_part_at n 12 10 m)
second-good m hs n good is at there = part-good m there.0 hs 12 10 n good is at there.1 (ap (λ (v : List ℕ). is_value (take 10 (drop 12 v))) there.2)

-- no line is there
removed : (name : List ℕ) (hs : List HeaderText) (n : ℕ) → n ≡ place_of name hs → n < length hs → remove hs n ≡ replaced name None hs
removed name [] n at lt = absurd (omega arith)
removed name (h ∷ hs) zero at lt =
    elim (cases_Bool (same_name name h.name)) [
      | inl same ↦ sym (cond-true (same_name name h.name) hs (h ∷ replaced name None hs) same)
      | inr other ↦ let k : 0 ≡ 1 + place_of name hs = at ∙ cond-false (same_name name h.name) 0 (1 + place_of name hs) other in absurd (omega (arith, k))
    ]
removed name (h ∷ hs) (suc i) at lt =
    let n = place_of name hs in
    elim (cases_Bool (same_name name h.name)) [
      | inl same ↦ let k : suc i ≡ 0 = at ∙ cond-true (same_name name h.name) 0 (1 + n) same in absurd (omega (arith, k))
      | inr other ↦
          let k : suc i ≡ 1 + n = at ∙ cond-false (same_name name h.name) 0 (1 + n) other in
          let place : i ≡ n = omega (arith, k) in
          ap (λ (xs : List HeaderText). h ∷ xs) (removed name hs i place (omega arith))
          ∙ sym (cond-false (same_name name h.name) hs (h ∷ replaced name None hs) other)
    ]

gone : (m : MessageText) (n : ℕ) → IsMessage m → n ≡ place_of (codes "route") m.headers → n < length m.headers → IsMessage (without_line_at n m)
gone m n good at lt =
    subst (λ (hs : List HeaderText). IsMessage (with_headers m hs)) (sym (removed (codes "route") m.headers n at lt)) (with_route-good m None good tt)

pub gone-good : (m : MessageText) (hs : List HeaderText) (n : ℕ) → IsMessage m → hs ≡ m.headers → n ≡ place_of (codes "route") hs → n < length hs → IsMessage (without_line_at n m)
gone-good m hs n good is at lt = gone m n good (at ∙ ap (place_of (codes "route")) is) (subst (λ (xs : List HeaderText). n < length xs) is lt)
