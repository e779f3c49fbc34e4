-- Lines with credentials, taken off one by one.
use Rattle.proxy_routing.proofs.Common.{◌≡◌, ◌∙◌, Bool, true, false, List, ℕ, zero, suc, Option, Some, refl, sym, ap, subst, arith, codes, take, MessageText}
use Rattle.std.proofs.Common.{None, ◌<◌, ◌≤◌, ◌+◌, [], ◌∷◌, ◌++◌, append-nil, append_assoc, drop, inl, inr, length}
use Rattle.std.specs.Prelude.{IfSome, IsTrue, ◌↔◌, remove, slice_get}
use Rattle.std.proofs.lemmas.Option.{same_Some}
use Rattle.sip_text.specs.Change.{without_line_at}
use Rattle.sip_text.specs.Text.{HeaderText}
use Rattle.sip_via.specs.Edits.{with_headers}
use Rattle.sip_digest.specs.OwnCredentials.{IsTakenOff, IsWithoutCredentials}
use Rattle.proxy_routing.specs.OwnCredentials.{IsWithoutOwnCredentials}
use Rattle.proxy_routing.specs.inner.TakenOff.{IsTakenFurther, IsTakenSoFar}

pub none_yet : (realm : List ℕ) (m : MessageText) → IsTakenSoFar realm m m 0
none_yet realm m = record { start = refl; body = refl; rest = λ left is. is }

not_false : (b : Bool) → b ≡ false → IsTrue b → ⊥
not_false b e f = absurd cc

-- ---- a line at a place

none_at : (hs : List HeaderText) (place : ℕ) → slice_get hs place ≡ None → place < length hs → ⊥
none_at [] place e less = omega (arith, less)
none_at (x ∷ hs) zero e less = absurd cc
none_at (x ∷ hs) (suc place) e less = none_at hs place e (omega (arith, less))

drop_there : (hs : List HeaderText) (place : ℕ) (h : HeaderText) → slice_get hs place ≡ Some h → drop place hs ≡ h ∷ drop (suc place) hs
drop_there [] place h e = absurd cc
drop_there (x ∷ hs) zero h e = ap (λ (y : HeaderText). y ∷ hs) (same_Some _ _ e)
drop_there (x ∷ hs) (suc place) h e = drop_there hs place h e

drop_gone : (hs : List HeaderText) (place : ℕ) (h : HeaderText) → slice_get hs place ≡ Some h → drop place (remove hs place) ≡ drop (suc place) hs
drop_gone [] place h e = absurd cc
drop_gone (x ∷ hs) zero h e = refl
drop_gone (x ∷ hs) (suc place) h e = drop_gone hs place h e

take_gone : (hs : List HeaderText) (place : ℕ) (h : HeaderText) → slice_get hs place ≡ Some h → take place (remove hs place) ≡ take place hs
take_gone [] place h e = absurd cc
take_gone (x ∷ hs) zero h e = refl
take_gone (x ∷ hs) (suc place) h e = ap (λ (ls : List HeaderText). x ∷ ls) (take_gone hs place h e)

take_there : (hs : List HeaderText) (place : ℕ) (h : HeaderText) → slice_get hs place ≡ Some h → take (suc place) hs ≡ take place hs ++ h ∷ []
take_there [] place h e = absurd cc
take_there (x ∷ hs) zero h e = ap (λ (y : HeaderText). y ∷ []) (same_Some _ _ e)
take_there (x ∷ hs) (suc place) h e = ap (λ (ls : List HeaderText). x ∷ ls) (take_there hs place h e)

-- ---- one more

module _ (realm : List ℕ) (initial m : MessageText) (place : ℕ) (h : HeaderText) (at : slice_get m.headers place ≡ Some h) (so_far : IsTakenSoFar realm initial m place) where
  pub one_taken : IsTakenOff realm h.name h.value → (new : MessageText) → new ≡ without_line_at place m → IsTakenSoFar realm initial new place
  one_taken taken new is =
      let P : MessageText → Type 0 = λ x. IsTakenSoFar realm initial x place in
      subst P (sym is) (record {
        start = so_far.start;
        body = so_far.body;
        rest = λ left without.
            let from : IsWithoutCredentials realm (drop (suc place) m.headers) left =
            subst (λ (hs : List HeaderText). IsWithoutCredentials realm hs left) (drop_gone m.headers place h at) without in
            let whole : IsWithoutCredentials realm (h ∷ drop (suc place) m.headers) left = inl (taken, from) in
            subst (λ (front : List HeaderText). IsWithoutCredentials realm initial.headers (front ++ left)) (sym (take_gone m.headers place h at))
            (so_far.rest left (subst (λ (hs : List HeaderText). IsWithoutCredentials realm hs left) (sym (drop_there m.headers place h at)) whole));
      })

  pub one_kept : (IsTakenOff realm h.name h.value → ⊥) → (next : ℕ) → next ≡ suc place → IsTakenSoFar realm initial m next
  one_kept kept next is =
      let P : ℕ → Type 0 = λ n. IsTakenSoFar realm initial m n in
      subst P (sym is) (record {
        start = so_far.start;
        body = so_far.body;
        rest = λ left without.
            let whole : IsWithoutCredentials realm (h ∷ drop (suc place) m.headers) (h ∷ left) = inr (kept, left, refl, without) in
            let same : take place m.headers ++ h ∷ left ≡ take (suc place) m.headers ++ left =
            sym (append_assoc (take place m.headers) (h ∷ []) left) ∙ ap (λ (front : List HeaderText). front ++ left) (sym (take_there m.headers place h at)) in
            subst (λ (ls : List HeaderText). IsWithoutCredentials realm initial.headers ls) same
            (so_far.rest (h ∷ left) (subst (λ (hs : List HeaderText). IsWithoutCredentials realm hs (h ∷ left)) (sym (drop_there m.headers place h at)) whole));
      })

-- ---- and so one line fewer is left

length_gone : (hs : List HeaderText) (place : ℕ) (h : HeaderText) → slice_get hs place ≡ Some h → length (remove hs place) + 1 ≡ length hs
length_gone [] place h e = absurd cc
length_gone (x ∷ hs) zero h e = omega arith
length_gone (x ∷ hs) (suc place) h e = let rest = length_gone hs place h e in omega (arith, rest)

-- by what the line at the place is
pub further_kept : (realm : List ℕ) (initial m : MessageText) (place next : ℕ) (taken : Bool) → IfSome (slice_get m.headers place) (λ h. IsTrue taken ↔ IsTakenOff realm h.name h.value)
    → taken ≡ false → place < length m.headers → next ≡ place + 1 → IsTakenSoFar realm initial m place → IsTakenFurther realm initial m place (m, next)
further_kept realm initial m place next taken told none less is so_far = by (slice_get m.headers place) refl told
  where
    by : (o : Option HeaderText) → slice_get m.headers place ≡ o → IfSome o (λ h. IsTrue taken ↔ IsTakenOff realm h.name h.value) → IsTakenFurther realm initial m place (m, next)
    by None at h = absurd (none_at m.headers place at less)
    by (Some h) at told =
        let kept : IsTakenOff realm h.name h.value → ⊥ = λ is. not_false taken none (told.1 is) in
        let same : next ≡ suc place = omega (arith, is) in
        (one_kept realm initial m place h at so_far kept next same, omega (arith, is, less))

pub further_taken : (realm : List ℕ) (initial m new : MessageText) (place : ℕ) (taken : Bool) → IfSome (slice_get m.headers place) (λ h. IsTrue taken ↔ IsTakenOff realm h.name h.value)
    → taken ≡ true → place < length m.headers → new ≡ without_line_at place m → IsTakenSoFar realm initial m place → IsTakenFurther realm initial m place (new, place)
further_taken realm initial m new place taken told some less is so_far = by (slice_get m.headers place) refl told
  where
    by : (o : Option HeaderText) → slice_get m.headers place ≡ o → IfSome o (λ h. IsTrue taken ↔ IsTakenOff realm h.name h.value) → IsTakenFurther realm initial m place (new, place)
    by None at h = absurd (none_at m.headers place at less)
    by (Some h) at told =
        let gone = length_gone m.headers place h at in
        let long : length new.headers ≡ length (remove m.headers place) = ap (λ (x : MessageText). length x.headers) is in
        (one_taken realm initial m place h at so_far (told.0 some) new is, omega (arith, gone, long, less))

-- the line at the place is one with credentials
pub named_there : (realm : List ℕ) (m : MessageText) (place : ℕ) (taken : Bool) → IfSome (slice_get m.headers place) (λ h. IsTrue taken ↔ IsTakenOff realm h.name h.value)
    → taken ≡ true → place < length m.headers → (h : HeaderText) × (slice_get m.headers place ≡ Some h) × IsTakenOff realm h.name h.value
named_there realm m place taken told some less = by (slice_get m.headers place) refl told
  where
    by : (o : Option HeaderText) → slice_get m.headers place ≡ o → IfSome o (λ h. IsTrue taken ↔ IsTakenOff realm h.name h.value)
        → (h : HeaderText) × (slice_get m.headers place ≡ Some h) × IsTakenOff realm h.name h.value
    by None at h = absurd (none_at m.headers place at less)
    by (Some h) at told = (h, at, told.0 some)

-- ---- all of them

drop_all : (hs : List HeaderText) (place : ℕ) → length hs ≤ place → drop place hs ≡ []
drop_all [] zero few = refl
drop_all [] (suc place) few = refl
drop_all (h ∷ hs) zero few = absurd (omega arith)
drop_all (h ∷ hs) (suc place) few = let fewer : length hs ≤ place = omega arith in drop_all hs place fewer

take_all : (hs : List HeaderText) (place : ℕ) → length hs ≤ place → take place hs ≡ hs
take_all [] zero few = refl
take_all [] (suc place) few = refl
take_all (h ∷ hs) zero few = absurd (omega arith)
take_all (h ∷ hs) (suc place) few = let fewer : length hs ≤ place = omega arith in ap (λ (ls : List HeaderText). h ∷ ls) (take_all hs place fewer)

pub all_taken : (realm : List ℕ) (initial m : MessageText) (place : ℕ) → length m.headers ≤ place → IsTakenSoFar realm initial m place → IsWithoutOwnCredentials (Some realm) initial m
all_taken realm initial m place few so_far =
    let all : IsWithoutCredentials realm initial.headers (take place m.headers ++ []) = so_far.rest [] (subst (λ (hs : List HeaderText). IsWithoutCredentials realm hs []) (sym (drop_all m.headers place few)) refl) in
    let same : take place m.headers ++ [] ≡ m.headers = append-nil (take place m.headers) ∙ take_all m.headers place few in (
      m.headers,
      subst (λ (ls : List HeaderText). IsWithoutCredentials realm initial.headers ls) same all,
      λ k. record { start = so_far.start k; headers = m.headers; body = so_far.body k },
    )
