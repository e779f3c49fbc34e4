-- No user has more than sixteen bindings.
use Rattle.std.proofs.Common.{◌≡◌, ◌⊎◌, ◌≤◌, ◌<◌, ℕ, zero, suc, ◌+◌, ◌-◌, min, Bool, true, false, cond, List, [], ◌∷◌, filter, fold, length, Option, Some, None, Ok, refl, sym, ap, ◌∙◌, inl, inr, arith}
use Rattle.std.specs.Prelude.{not, ◌&&◌, ◌==◌, is_some, nat_lt}
use Rattle.std.specs.List.{list_any}
use Rattle.std.proofs.lemmas.Bool.Decides.{leb_tells, nat_tests}
use Rattle.bindings.specs.declared.refusal.RegisterRefusal.{RegisterRefusal}
use Rattle.bindings.specs.Bindings.{Asked, Binding, Register, RequestId, after_contact, all_asked, at_most, binding_of, changed, ends_first, fewer, first_end, goes, in_place, is_by, is_of_another, is_there, most, names, sooner, sooner_if, there, without_first}
use Rattle.bindings.specs.Registering.{has_made, is_repeat, refusal, registered, unless}
use Rattle.bindings.specs.History.{IsIn, bindings_after, or_old}
use Rattle.bindings.proofs.Members.{not_both}
use Rattle.bindings.proofs.Requests.{or_false, unrefused}

-- how many the request made
abbrev mine : RequestId → List Binding → ℕ
mine id bindings = length (filter (is_by id) bindings)

abbrev one_if : Bool → ℕ
one_if v = cond v 1 0

one_if_few : (v : Bool) → one_if v ≤ 1
one_if_few true = omega arith
one_if_few false = omega arith

mine_more : (id : RequestId) (b : Binding) (bindings : List Binding) → mine id (b ∷ bindings) ≡ one_if (is_by id b) + mine id bindings
mine_more id b bindings = one (is_by id b)
  where
    one : (v : Bool) → length (cond v (b ∷ filter (is_by id) bindings) (filter (is_by id) bindings)) ≡ one_if v + mine id bindings
    one true = omega arith
    one false = omega arith

-- ---- one of another request

record Other (id : RequestId) (bindings : List Binding) : Type 0 where
  binding : Binding
  is_in : IsIn binding bindings
  is_other : is_of_another id binding ≡ true

another : (id : RequestId) (bindings : List Binding) → mine id bindings < length bindings → Other id bindings
another id [] h = absurd (omega arith)
another id (b ∷ bindings) h = one (is_by id b) refl (another id bindings)
  where
    one : (v : Bool) → is_by id b ≡ v → (mine id bindings < length bindings → Other id bindings) → Other id (b ∷ bindings)
    one true e later =
        let n = mine_more id b bindings ∙ ap (λ v. one_if v + mine id bindings) e in
        let o = later (omega (arith, h, n)) in
        record { binding = o.binding; is_in = inr o.is_in; is_other = o.is_other }
    one false e later = record { binding = b; is_in = inl refl; is_other = ap not e }

-- ---- the first that end

abbrev next : (Binding → Bool) → Option ℕ → Binding → Option ℕ
next test soonest b = sooner_if (test b) soonest b.ends

record Ends (test : Binding → Bool) (bindings : List Binding) (end : Option ℕ) : Type 0 where
  binding : Binding
  is_in : IsIn binding bindings
  passes : test binding ≡ true
  is_end : end ≡ Some binding.ends

min_is : (m n : ℕ) → (min m n ≡ m) ⊎ (min m n ≡ n)
min_is m n = elim (leb_tells m n) [ inl h ↦ inl (grind (arith, h.1)) | inr h ↦ inr (grind (arith, h.1)) ]

end_here : (b : Binding) (soonest : Option ℕ) → (sooner soonest b.ends ≡ soonest) ⊎ (sooner soonest b.ends ≡ Some b.ends)
end_here b None = inr refl
end_here b (Some m) = elim (min_is m b.ends) [ inl e ↦ inl (ap (λ k. Some k) e) | inr e ↦ inr (ap (λ k. Some k) e) ]

ends : (test : Binding → Bool) (soonest : Option ℕ) (bindings : List Binding) → (fold (next test) soonest bindings ≡ soonest) ⊎ Ends test bindings (fold (next test) soonest bindings)
ends test soonest [] = inl refl
ends test soonest (b ∷ bindings) = elim (ends test (next test soonest b) bindings) [
  | inl same ↦ one (test b) refl same
  | inr e ↦ inr (record { binding = e.binding; is_in = inr e.is_in; passes = e.passes; is_end = e.is_end })
]
  where
    found : Option ℕ
    found = fold (next test) (next test soonest b) bindings

    one : (v : Bool) → test b ≡ v → found ≡ sooner_if v soonest b.ends → (found ≡ soonest) ⊎ Ends test (b ∷ bindings) found
    one false t e = inl e
    one true t e = elim (end_here b soonest) [
      | inl k ↦ inl (e ∙ k)
      | inr k ↦ inr (record { binding = b; is_in = inl refl; passes = t; is_end = e ∙ k })
    ]

some_none : (m : ℕ) → Some m ≡ None → ⊥
some_none m e = absurd cc

stays_some : (test : Binding → Bool) (m : ℕ) (bindings : List Binding) → fold (next test) (Some m) bindings ≡ None → ⊥
stays_some test m [] e = some_none m e
stays_some test m (b ∷ bindings) e = one (test b) (λ k. stays_some test k bindings) e
  where
    one : (v : Bool) → ((k : ℕ) → fold (next test) (Some k) bindings ≡ None → ⊥) → fold (next test) (sooner_if v (Some m) b.ends) bindings ≡ None → ⊥
    one true later e = later (min m b.ends) e
    one false later e = later m e

some_end : (test : Binding → Bool) (soonest : Option ℕ) (bindings : List Binding) (x : Binding) → IsIn x bindings → test x ≡ true → fold (next test) soonest bindings ≡ None → ⊥
some_end test soonest [] x k t e = k
some_end test soonest (b ∷ bindings) x (inr k) t e = some_end test (next test soonest b) bindings x k t e
some_end test soonest (b ∷ bindings) x (inl same) t e =
    one soonest (ap (λ v. fold (next test) (sooner_if v soonest b.ends) bindings) (sym (ap test same ∙ t)) ∙ e)
  where
    one : (o : Option ℕ) → fold (next test) (sooner o b.ends) bindings ≡ None → ⊥
    one None e = stays_some test b.ends bindings e
    one (Some m) e = stays_some test (min m b.ends) bindings e

-- ---- one goes

shorter : (p : Binding → Bool) (bindings : List Binding) (y : Binding) → IsIn y bindings → p y ≡ true → suc (length (without_first p bindings)) ≡ length bindings
shorter p [] y k t = absurd k
shorter p (b ∷ bindings) y k t = one (p b) refl k (shorter p bindings y)
  where
    one : (v : Bool) → p b ≡ v → IsIn y (b ∷ bindings) → (IsIn y bindings → p y ≡ true → suc (length (without_first p bindings)) ≡ length bindings)
        → suc (length (cond v bindings (b ∷ without_first p bindings))) ≡ suc (length bindings)
    one true e k later = refl
    one false e (inl same) later = absurd (not_both (p b) (ap p same ∙ t) e)
    one false e (inr k) later = ap suc (later k t)

no_longer : (p : Binding → Bool) (bindings : List Binding) → length (without_first p bindings) ≤ length bindings
no_longer p [] = omega arith
no_longer p (b ∷ bindings) = one (p b) (no_longer p bindings)
  where
    one : (v : Bool) → length (without_first p bindings) ≤ length bindings → length (cond v bindings (b ∷ without_first p bindings)) ≤ suc (length bindings)
    one true h = omega arith
    one false h = omega (arith, h)

mine_without : (id : RequestId) (p : Binding → Bool) (bindings : List Binding) → mine id (without_first p bindings) ≤ mine id bindings
mine_without id p [] = omega arith
mine_without id p (b ∷ bindings) = one (p b) (mine_without id p bindings)
  where
    one : (v : Bool) → mine id (without_first p bindings) ≤ mine id bindings → mine id (cond v bindings (b ∷ without_first p bindings)) ≤ mine id (b ∷ bindings)
    one true h = let n = mine_more id b bindings in omega (arith, n)
    one false h = let n = mine_more id b bindings in let k = mine_more id b (without_first p bindings) in omega (arith, n, k, h)

goes_shorter : (id : RequestId) (bindings : List Binding) → mine id bindings < length bindings → suc (length (without_first (goes id bindings) bindings)) ≡ length bindings
goes_shorter id bindings h =
    let o = another id bindings h in
    elim (ends (is_of_another id) None bindings) [
      | inl none ↦ absurd (some_end (is_of_another id) None bindings o.binding o.is_in o.is_other none)
      | inr e ↦ shorter (goes id bindings) bindings e.binding e.is_in (passes e.binding e.passes (first_end (is_of_another id) bindings) e.is_end)
    ]
  where
    same_number : (n : ℕ) → (n == n) ≡ true
    same_number n = grind arith

    passes : (b : Binding) → is_of_another id b ≡ true → (end : Option ℕ) → end ≡ Some b.ends → ends_first id end b ≡ true
    passes b t end e = ap (λ (o : Option ℕ). ends_first id o b) e ∙ ap (λ v. v && (b.ends == b.ends)) t ∙ same_number b.ends

fewer_few : (id : RequestId) (n : ℕ) (bindings : List Binding) → mine id bindings ≤ most → length bindings ≤ most + n → length (fewer id n bindings) ≤ most
fewer_few id zero bindings few within = omega (arith, within)
fewer_few id (suc n) bindings few within =
    fewer_few id n (without_first (goes id bindings) bindings) (omega (arith, few, mine_without id (goes id bindings) bindings))
    (elim (leb_tells (length bindings) most) [
      | inl short ↦ omega (arith, short.1, no_longer (goes id bindings) bindings)
      | inr long ↦ omega (arith, within, goes_shorter id bindings (omega (arith, few, long.1)))
    ])

-- ---- the contacts of a request

mine_put : (id : RequestId) (p : Binding → Bool) (new : Binding) (bindings : List Binding) → mine id (in_place p new bindings) ≤ mine id bindings + 1
mine_put id p new [] = let n = mine_more id new [] in omega (arith, n, one_if_few (is_by id new))
mine_put id p new (b ∷ bindings) = one (p b) (mine_put id p new bindings)
  where
    one : (v : Bool) → mine id (in_place p new bindings) ≤ mine id bindings + 1 → mine id (cond v (new ∷ bindings) (b ∷ in_place p new bindings)) ≤ mine id (b ∷ bindings) + 1
    one true h = let n = mine_more id b bindings in let k = mine_more id new bindings in omega (arith, n, k, one_if_few (is_by id new))
    one false h = let n = mine_more id b bindings in let k = mine_more id b (in_place p new bindings) in omega (arith, n, k, h)

mine_contact : (r : Register) (bindings : List Binding) (a : Asked) → mine r.id (after_contact r bindings a) ≤ mine r.id bindings + 1
mine_contact r bindings a = one (is_there r.at (binding_of r a))
  where
    one : (v : Bool) → mine r.id (cond v (in_place (names a.contact) (binding_of r a) bindings) (without_first (names a.contact) bindings)) ≤ mine r.id bindings + 1
    one true = mine_put r.id (names a.contact) (binding_of r a) bindings
    one false = omega (arith, mine_without r.id (names a.contact) bindings)

mine_asked : (r : Register) (contacts : List Asked) (bindings : List Binding) → mine r.id (fold (after_contact r) bindings contacts) ≤ mine r.id bindings + length contacts
mine_asked r [] bindings = omega arith
mine_asked r (a ∷ contacts) bindings = omega (arith, mine_asked r contacts (after_contact r bindings a), mine_contact r bindings a)

none_there : (r : Register) (bindings : List Binding) → is_repeat r bindings ≡ false → mine r.id (there r.at bindings) ≡ 0
none_there r [] e = refl
none_there r (b ∷ bindings) e =
    let both = or_false (has_made r.id r.at b) (list_any (has_made r.id r.at) bindings) e in
    one (is_there r.at b) refl both.0 (none_there r bindings both.1)
  where
    one : (v : Bool) → is_there r.at b ≡ v → has_made r.id r.at b ≡ false → mine r.id (there r.at bindings) ≡ 0 → mine r.id (cond v (b ∷ there r.at bindings) (there r.at bindings)) ≡ 0
    one true t m rest =
        let other : is_by r.id b ≡ false = sym (ap (λ v. v && is_by r.id b) t) ∙ m in
        let n : mine r.id (b ∷ there r.at bindings) ≡ 0 + mine r.id (there r.at bindings) = mine_more r.id b (there r.at bindings) ∙ ap (λ v. one_if v + mine r.id (there r.at bindings)) other in
        omega (arith, n, rest)
    one false t m rest = rest

few_contacts : (n : ℕ) → nat_lt most n ≡ false → n ≤ most
few_contacts n e = grind (arith, nat_tests, e)

changed_few : (r : Register) (old : List Binding) → is_repeat r old ≡ false → refusal r (there r.at old) ≡ None → length (changed r (there r.at old)) ≤ most
changed_few r old e f = one (is_some r.star)
  where
    bindings : List Binding
    bindings = there r.at old

    contacts : length r.contacts ≤ most
    contacts = few_contacts (length r.contacts) (unrefused r bindings f).few

    one : (v : Bool) → length (cond v [] (at_most r.id (all_asked r bindings))) ≤ most
    one true = omega arith
    one false = fewer_few r.id (length (all_asked r bindings) - most) (all_asked r bindings)
        (omega (arith, mine_asked r r.contacts bindings, none_there r old e, contacts)) (omega arith)

few_step : (r : Register) (old : List Binding) → length old ≤ most → length (or_old old (registered r old)) ≤ most
few_step r old few = one (is_repeat r old) refl (refusal r (there r.at old)) refl
  where
    one : (v : Bool) → is_repeat r old ≡ v → (o : Option RegisterRefusal) → refusal r (there r.at old) ≡ o → length (or_old old (cond v (Ok old) (unless o (changed r (there r.at old))))) ≤ most
    one true e o f = few
    one false e (Some why) f = few
    one false e None f = changed_few r old e f

pub few_after : (history : List Register) → length (bindings_after history) ≤ most
few_after [] = omega arith
few_after (r ∷ earlier) = few_step r (bindings_after earlier) (few_after earlier)
