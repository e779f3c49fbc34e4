-- What a request that is taken leaves of bindings.
use Rattle.std.proofs.Common.{◌≡◌, ◌⊎◌, ℕ, zero, suc, ◌-◌, Bool, true, false, cond, List, [], ◌∷◌, fold, length, Option, Some, None, refl, sym, ap, subst, ◌∙◌, inl, inr}
use Rattle.std.specs.Prelude.{not, ◌&&◌, ◌||◌, ◌==◌, is_some, nat_lt}
use Rattle.std.specs.List.{AllByRecursion, list_any}
use Rattle.std.proofs.lemmas.Bool.{and_parts, not-true}
use Rattle.bindings.specs.declared.refusal.RegisterRefusal.TheVariants.{Star, TooMany, Twice, TooBrief, OutOfOrder}
use Rattle.bindings.specs.Bindings.{Asked, Binding, Register, RequestId, after_contact, all_asked, at_most, binding_of, changed, ends_first, fewer, first_end, goes, in_place, is_by, is_of_another, is_there, most, names, same_request, there, without_first}
use Rattle.bindings.specs.Registering.{are_apart, asks_the_same, has_made, is_brief, is_late, is_repeat, refusal, star_is_wrong}
use Rattle.bindings.specs.History.{Differ, EachPair, Goes, IsAsked, IsFirst, IsIn, IsNamed, TakesAway}
use Rattle.bindings.proofs.Members.{AreOnce, all_put, all_without, first_passes, not_both, once_of, pairs_filter, pairs_put, pairs_without, put_from, put_new, put_old, without_from, without_to}
use Rattle.bindings.proofs.Sameness.{binding_both, never_differs, request_both, request_same}

all_map : {X : Type 0} (P Q : X → Type 0) → ((x : X) → P x → Q x) → (xs : List X) → AllByRecursion P xs → AllByRecursion Q xs
all_map P Q f [] a = tt
all_map P Q f (x ∷ xs) a = (f x a.0, all_map P Q f xs a.1)

pub or_false : (a b : Bool) → (a || b) ≡ false → (a ≡ false) × (b ≡ false)
or_false true b e = absurd cc
or_false false b e = (refl, e)

none_passes : {X : Type 0} (p : X → Bool) (xs : List X) → list_any p xs ≡ false → AllByRecursion (λ x. p x ≡ false) xs
none_passes p [] e = tt
none_passes p (x ∷ xs) e = let both = or_false (p x) (list_any p xs) e in (both.0, none_passes p xs both.1)

-- a binding that the request made is named by none of these contacts
abbrev pub IsFresh : Register → List Asked → Binding → Type 0
IsFresh r contacts b = same_request r.id b.by ≡ true → AllByRecursion (λ (a : Asked). names a.contact b ≡ false) contacts

pub record Ready (r : Register) (contacts : List Asked) (bindings : List Binding) : Type 0 where
  pub apart : EachPair Differ bindings
  pub fresh : AllByRecursion (IsFresh r contacts) bindings

once : (bindings : List Binding) → EachPair Differ bindings → AreOnce bindings
once bindings apart = once_of Differ never_differs bindings apart

-- ---- one contact

new_fresh : (r : Register) (a : Asked) (contacts : List Asked) → list_any (asks_the_same a) contacts ≡ false → IsFresh r contacts (binding_of r a)
new_fresh r a contacts e made =
    all_map (λ (other : Asked). asks_the_same a other ≡ false) (λ (other : Asked). names other.contact (binding_of r a) ≡ false)
    (λ other apart. binding_both other.contact a.contact ∙ apart) contacts (none_passes (asks_the_same a) contacts e)

fresh_behind : (r : Register) (a : Asked) (contacts : List Asked) (b : Binding) → IsFresh r (a ∷ contacts) b → IsFresh r contacts b
fresh_behind r a contacts b fresh made = (fresh made).1

differs_before : (r : Register) (a : Asked) (contacts : List Asked) (b : Binding) → IsFresh r (a ∷ contacts) b → Differ b (binding_of r a)
differs_before r a contacts b fresh made = binding_both b.contact a.contact ∙ (fresh (request_both r.id b.by ∙ made)).0

differs_behind : (r : Register) (a : Asked) (contacts : List Asked) (b : Binding) → IsFresh r (a ∷ contacts) b → Differ (binding_of r a) b
differs_behind r a contacts b fresh made = (fresh made).0

ready_behind : (r : Register) (a : Asked) (contacts : List Asked) (bindings : List Binding) → list_any (asks_the_same a) contacts ≡ false → Ready r (a ∷ contacts) bindings → Ready r contacts (after_contact r bindings a)
ready_behind r a contacts bindings e ready = one (is_there r.at (binding_of r a))
  where
    one : (v : Bool) → Ready r contacts (cond v (in_place (names a.contact) (binding_of r a) bindings) (without_first (names a.contact) bindings))
    one true = record {
      apart = pairs_put Differ (names a.contact) (binding_of r a) bindings ready.apart
          (all_map (IsFresh r (a ∷ contacts)) (λ (b : Binding). Differ b (binding_of r a)) (differs_before r a contacts) bindings ready.fresh)
          (all_map (IsFresh r (a ∷ contacts)) (Differ (binding_of r a)) (differs_behind r a contacts) bindings ready.fresh);
      fresh = all_put (IsFresh r contacts) (names a.contact) (binding_of r a) bindings
          (all_map (IsFresh r (a ∷ contacts)) (IsFresh r contacts) (fresh_behind r a contacts) bindings ready.fresh) (new_fresh r a contacts e);
    }
    one false = record {
      apart = pairs_without Differ (names a.contact) bindings ready.apart;
      fresh = all_without (IsFresh r contacts) (names a.contact) bindings (all_map (IsFresh r (a ∷ contacts)) (IsFresh r contacts) (fresh_behind r a contacts) bindings ready.fresh);
    }

contact_from : (r : Register) (bindings : List Binding) (a : Asked) (x : Binding) → EachPair Differ bindings → IsIn x (after_contact r bindings a)
    → ((binding_of r a ≡ x) × (is_there r.at x ≡ true)) ⊎ (IsIn x bindings × (IsFirst (names a.contact) bindings x → ⊥))
contact_from r bindings a x apart k = one (is_there r.at (binding_of r a)) refl k
  where
    one : (v : Bool) → is_there r.at (binding_of r a) ≡ v → IsIn x (cond v (in_place (names a.contact) (binding_of r a) bindings) (without_first (names a.contact) bindings))
        → ((binding_of r a ≡ x) × (is_there r.at x ≡ true)) ⊎ (IsIn x bindings × (IsFirst (names a.contact) bindings x → ⊥))
    one true e k = elim (put_from (names a.contact) (binding_of r a) bindings x (once bindings apart) k) [
      | inl same ↦ inl (same, subst (λ (b : Binding). is_there r.at b ≡ true) same e)
      | inr old ↦ inr old
    ]
    one false e k = inr (without_from (names a.contact) bindings x (once bindings apart) k)

contact_new : (r : Register) (bindings : List Binding) (a : Asked) → is_there r.at (binding_of r a) ≡ true → IsIn (binding_of r a) (after_contact r bindings a)
contact_new r bindings a e =
    subst (λ (v : Bool). IsIn (binding_of r a) (cond v (in_place (names a.contact) (binding_of r a) bindings) (without_first (names a.contact) bindings))) (sym e)
    (put_new (names a.contact) (binding_of r a) bindings)

contact_old : (r : Register) (bindings : List Binding) (a : Asked) (x : Binding) → IsIn x bindings → (IsFirst (names a.contact) bindings x → ⊥) → IsIn x (after_contact r bindings a)
contact_old r bindings a x k none = one (is_there r.at (binding_of r a))
  where
    one : (v : Bool) → IsIn x (cond v (in_place (names a.contact) (binding_of r a) bindings) (without_first (names a.contact) bindings))
    one true = put_old (names a.contact) (binding_of r a) bindings x k none
    one false = without_to (names a.contact) bindings x k none

-- ---- all contacts

parts : (a : Asked) (contacts : List Asked) → are_apart (a ∷ contacts) ≡ true → (list_any (asks_the_same a) contacts ≡ false) × (are_apart contacts ≡ true)
parts a contacts e = let both = and_parts (not (list_any (asks_the_same a) contacts)) (are_apart contacts) e in (not-true _ both.0, both.1)

pub all_ready : (r : Register) (contacts : List Asked) (bindings : List Binding) → are_apart contacts ≡ true → Ready r contacts bindings → EachPair Differ (fold (after_contact r) bindings contacts)
all_ready r [] bindings e ready = ready.apart
all_ready r (a ∷ contacts) bindings e ready =
    let both = parts a contacts e in all_ready r contacts (after_contact r bindings a) both.1 (ready_behind r a contacts bindings both.0 ready)

unnamed : (r : Register) (bindings : List Binding) (contacts : List Asked) (x : Binding) → AllByRecursion (λ (a : Asked). names a.contact x ≡ false) contacts → IsNamed r bindings contacts x → ⊥
unnamed r bindings [] x all f = f
unnamed r bindings (a ∷ contacts) x all (inl f) = not_both (names a.contact x) (first_passes (names a.contact) bindings x f) all.0
unnamed r bindings (a ∷ contacts) x all (inr f) = unnamed r (after_contact r bindings a) contacts x all.1 f

asked_from : (r : Register) (contacts : List Asked) (bindings : List Binding) (x : Binding) → are_apart contacts ≡ true → Ready r contacts bindings → IsIn x (fold (after_contact r) bindings contacts)
    → IsAsked r contacts x ⊎ (IsIn x bindings × (IsNamed r bindings contacts x → ⊥))
asked_from r [] bindings x e ready k = inr (k, λ f. f)
asked_from r (a ∷ contacts) bindings x e ready k =
    let both = parts a contacts e in
    elim (asked_from r contacts (after_contact r bindings a) x both.1 (ready_behind r a contacts bindings both.0 ready) k) [
      | inl asked ↦ inl (inr asked)
      | inr h ↦ elim (contact_from r bindings a x ready.apart h.0) [
        | inl new ↦ inl (inl new)
        | inr old ↦ inr (old.0, λ f. elim f [ inl g ↦ old.1 g | inr g ↦ h.1 g ])
      ]
    ]

asked_to : (r : Register) (contacts : List Asked) (bindings : List Binding) (x : Binding) → are_apart contacts ≡ true → Ready r contacts bindings
    → IsAsked r contacts x ⊎ (IsIn x bindings × (IsNamed r bindings contacts x → ⊥)) → IsIn x (fold (after_contact r) bindings contacts)
asked_to r [] bindings x e ready (inl asked) = absurd asked
asked_to r [] bindings x e ready (inr h) = h.0
asked_to r (a ∷ contacts) bindings x e ready (inl (inl new)) =
    let both = parts a contacts e in
    let there_now : is_there r.at (binding_of r a) ≡ true = subst (λ (b : Binding). is_there r.at b ≡ true) (sym new.0) new.1 in
    asked_to r contacts (after_contact r bindings a) x both.1 (ready_behind r a contacts bindings both.0 ready)
    (inr (
      subst (λ (b : Binding). IsIn b (after_contact r bindings a)) new.0 (contact_new r bindings a there_now),
      unnamed r (after_contact r bindings a) contacts x
          (subst (λ (b : Binding). AllByRecursion (λ (other : Asked). names other.contact b ≡ false) contacts) new.0 (new_fresh r a contacts both.0 (request_same r.id))),
    ))
asked_to r (a ∷ contacts) bindings x e ready (inl (inr asked)) =
    let both = parts a contacts e in asked_to r contacts (after_contact r bindings a) x both.1 (ready_behind r a contacts bindings both.0 ready) (inl asked)
asked_to r (a ∷ contacts) bindings x e ready (inr h) =
    let both = parts a contacts e in
    asked_to r contacts (after_contact r bindings a) x both.1 (ready_behind r a contacts bindings both.0 ready)
    (inr (contact_old r bindings a x h.0 (λ f. h.1 (inl f)), λ f. h.1 (inr f)))

-- ---- those that go

pub fewer_apart : (id : RequestId) (n : ℕ) (bindings : List Binding) → EachPair Differ bindings → EachPair Differ (fewer id n bindings)
fewer_apart id zero bindings apart = apart
fewer_apart id (suc n) bindings apart = fewer_apart id n (without_first (goes id bindings) bindings) (pairs_without Differ (goes id bindings) bindings apart)

fewer_from : (id : RequestId) (n : ℕ) (bindings : List Binding) (x : Binding) → EachPair Differ bindings → IsIn x (fewer id n bindings) → IsIn x bindings × (Goes id n bindings x → ⊥)
fewer_from id zero bindings x apart k = (k, λ f. f)
fewer_from id (suc n) bindings x apart k =
    let h = fewer_from id n (without_first (goes id bindings) bindings) x (pairs_without Differ (goes id bindings) bindings apart) k in
    let old = without_from (goes id bindings) bindings x (once bindings apart) h.0 in
    (old.0, λ f. elim f [ inl g ↦ old.1 g | inr g ↦ h.1 g ])

fewer_to : (id : RequestId) (n : ℕ) (bindings : List Binding) (x : Binding) → IsIn x bindings → (Goes id n bindings x → ⊥) → IsIn x (fewer id n bindings)
fewer_to id zero bindings x k none = k
fewer_to id (suc n) bindings x k none =
    fewer_to id n (without_first (goes id bindings) bindings) x (without_to (goes id bindings) bindings x k (λ f. none (inl f))) (λ f. none (inr f))

ends_other : (id : RequestId) (end : Option ℕ) (x : Binding) → ends_first id end x ≡ true → is_by id x ≡ false
ends_other id None x e = absurd cc
ends_other id (Some moment) x e = not-true _ (and_parts (is_of_another id x) (x.ends == moment) e).0

goes_other : (id : RequestId) (n : ℕ) (bindings : List Binding) (x : Binding) → Goes id n bindings x → is_by id x ≡ false
goes_other id zero bindings x f = absurd f
goes_other id (suc n) bindings x (inl f) = ends_other id (first_end (is_of_another id) bindings) x (first_passes (goes id bindings) bindings x f)
goes_other id (suc n) bindings x (inr f) = goes_other id n (without_first (goes id bindings) bindings) x f

by_asked : (r : Register) (contacts : List Asked) (x : Binding) → IsAsked r contacts x → is_by r.id x ≡ true
by_asked r [] x asked = absurd asked
by_asked r (a ∷ contacts) x (inl new) = subst (λ (b : Binding). is_by r.id b ≡ true) new.0 (request_same r.id)
by_asked r (a ∷ contacts) x (inr asked) = by_asked r contacts x asked

-- ---- a request

pub record Unrefused (r : Register) : Type 0 where
  pub star : star_is_wrong r.star r.contacts ≡ false
  pub few : nat_lt most (length r.contacts) ≡ false
  pub apart : are_apart r.contacts ≡ true

pub unrefused : (r : Register) (bindings : List Binding) → refusal r bindings ≡ None → Unrefused r
unrefused r bindings e =
    one (star_is_wrong r.star r.contacts) (nat_lt most (length r.contacts)) (are_apart r.contacts) (list_any (is_brief r.least) r.contacts) (is_late r bindings) refl refl refl e
  where
    one : (a b c d f : Bool) → star_is_wrong r.star r.contacts ≡ a → nat_lt most (length r.contacts) ≡ b → are_apart r.contacts ≡ c
        → cond a (Some Star) (cond b (Some TooMany) (cond (not c) (Some Twice) (cond d (Some TooBrief) (cond f (Some OutOfOrder) None)))) ≡ None → Unrefused r
    one true b c d f x y z e = absurd cc
    one false true c d f x y z e = absurd cc
    one false false false d f x y z e = absurd cc
    one false false true d f x y z e = record { star = x; few = y; apart = z }

not_and_false : (v : Bool) → not (v && false) ≡ false → ⊥
not_and_false true e = absurd cc
not_and_false false e = absurd cc

star_alone : (r : Register) (star : Option ℕ) (contacts : List Asked) (x : Binding) → is_some star ≡ true → star_is_wrong star contacts ≡ false → IsAsked r contacts x → ⊥
star_alone r None contacts x e f asked = absurd cc
star_alone r (Some time) [] x e f asked = asked
star_alone r (Some time) (a ∷ contacts) x e f asked = not_and_false (time == 0) f

abbrev more : Register → List Binding → ℕ
more r bindings = length (all_asked r bindings) - most

pub changed_from : (r : Register) (bindings : List Binding) (x : Binding) → Ready r r.contacts bindings → refusal r bindings ≡ None → IsIn x (changed r bindings)
    → IsAsked r r.contacts x ⊎ (IsIn x bindings × (TakesAway r bindings x → ⊥))
changed_from r bindings x ready e k = one (is_some r.star) refl k
  where
    u : Unrefused r
    u = unrefused r bindings e

    one : (v : Bool) → is_some r.star ≡ v → IsIn x (cond v [] (at_most r.id (all_asked r bindings))) → IsAsked r r.contacts x ⊎ (IsIn x bindings × (TakesAway r bindings x → ⊥))
    one true star k = absurd k
    one false star k =
        let h = fewer_from r.id (more r bindings) (all_asked r bindings) x (all_ready r r.contacts bindings u.apart ready) k in
        elim (asked_from r r.contacts bindings x u.apart ready h.0) [
          | inl asked ↦ inl asked
          | inr old ↦ inr (old.0, λ f. elim f [ inl g ↦ not_both (is_some r.star) g star | inr g ↦ elim g [ inl n ↦ old.1 n | inr n ↦ h.1 n ] ])
        ]

pub changed_to : (r : Register) (bindings : List Binding) (x : Binding) → Ready r r.contacts bindings → refusal r bindings ≡ None
    → IsAsked r r.contacts x ⊎ (IsIn x bindings × (TakesAway r bindings x → ⊥)) → IsIn x (changed r bindings)
changed_to r bindings x ready e h = one (is_some r.star) refl h
  where
    u : Unrefused r
    u = unrefused r bindings e

    one : (v : Bool) → is_some r.star ≡ v → IsAsked r r.contacts x ⊎ (IsIn x bindings × (TakesAway r bindings x → ⊥)) → IsIn x (cond v [] (at_most r.id (all_asked r bindings)))
    one true star (inl asked) = star_alone r r.star r.contacts x star u.star asked
    one true star (inr h) = h.1 (inl star)
    one false star (inl asked) =
        fewer_to r.id (more r bindings) (all_asked r bindings) x (asked_to r r.contacts bindings x u.apart ready (inl asked))
        (λ g. not_both (is_by r.id x) (by_asked r r.contacts x asked) (goes_other r.id (more r bindings) (all_asked r bindings) x g))
    one false star (inr h) =
        fewer_to r.id (more r bindings) (all_asked r bindings) x (asked_to r r.contacts bindings x u.apart ready (inr (h.0, λ n. h.1 (inr (inl n)))))
        (λ n. h.1 (inr (inr n)))

pub changed_apart : (r : Register) (bindings : List Binding) → Ready r r.contacts bindings → refusal r bindings ≡ None → EachPair Differ (changed r bindings)
changed_apart r bindings ready e = one (is_some r.star)
  where
    u : Unrefused r
    u = unrefused r bindings e

    one : (v : Bool) → EachPair Differ (cond v [] (at_most r.id (all_asked r bindings)))
    one true = tt
    one false = fewer_apart r.id (more r bindings) (all_asked r bindings) (all_ready r r.contacts bindings u.apart ready)

-- ---- what is there as a request comes

pub fresh_there : (r : Register) (contacts : List Asked) (bindings : List Binding) → is_repeat r bindings ≡ false → AllByRecursion (IsFresh r contacts) (there r.at bindings)
fresh_there r contacts [] e = tt
fresh_there r contacts (b ∷ bindings) e =
    let both = or_false (has_made r.id r.at b) (list_any (has_made r.id r.at) bindings) e in
    one (is_there r.at b) refl both.0 (fresh_there r contacts bindings both.1)
  where
    one : (v : Bool) → is_there r.at b ≡ v → has_made r.id r.at b ≡ false → AllByRecursion (IsFresh r contacts) (there r.at bindings)
        → AllByRecursion (IsFresh r contacts) (cond v (b ∷ there r.at bindings) (there r.at bindings))
    one true t m rest = ((λ made. absurd (not_both (has_made r.id r.at b) (ap (λ v. v && is_by r.id b) t ∙ made) m)), rest)
    one false t m rest = rest

pub ready_there : (r : Register) (bindings : List Binding) → EachPair Differ bindings → is_repeat r bindings ≡ false → Ready r r.contacts (there r.at bindings)
ready_there r bindings apart e = record { apart = pairs_filter Differ (is_there r.at) bindings apart; fresh = fresh_there r r.contacts bindings e }
