-- What is in a list of which the first that passes is taken, or replaced.
use Rattle.std.proofs.Common.{◌≡◌, ◌⊎◌, Bool, true, false, cond, List, [], ◌∷◌, filter, refl, sym, subst, inl, inr}
use Rattle.std.specs.List.{AllByRecursion}
use Rattle.bindings.specs.Bindings.{in_place, without_first}
use Rattle.bindings.specs.History.{EachPair, IsFirst, IsIn}

pub not_both : (v : Bool) → v ≡ true → v ≡ false → ⊥
not_both true e f = absurd cc
not_both false e f = absurd cc

module _ {X : Type 0} where
  -- none stands there twice
  abbrev pub AreOnce : List X → Type 0
  AreOnce [] = Unit {0}
  AreOnce (x ∷ xs) = (IsIn x xs → ⊥) × AreOnce xs

  pub first_in : (p : X → Bool) (xs : List X) (x : X) → IsFirst p xs x → IsIn x xs
  first_in p [] x f = f
  first_in p (y ∷ ys) x (inl f) = inl f.1
  first_in p (y ∷ ys) x (inr f) = inr (first_in p ys x f.1)

  pub first_passes : (p : X → Bool) (xs : List X) (x : X) → IsFirst p xs x → p x ≡ true
  first_passes p [] x f = absurd f
  first_passes p (y ∷ ys) x (inl f) = subst (λ (z : X). p z ≡ true) f.1 f.0
  first_passes p (y ∷ ys) x (inr f) = first_passes p ys x f.1

  lone : (y : X) (ys : List X) (x : X) → (IsIn y ys → ⊥) → y ≡ x → IsIn x ys → ⊥
  lone y ys x once same k = once (subst (λ (z : X). IsIn z ys) (sym same) k)

  -- behind the first that passes nothing is first
  behind : (p : X → Bool) (y : X) (ys : List X) (x : X) → (IsIn y ys → ⊥) → p y ≡ true → IsIn x ys → IsFirst p (y ∷ ys) x → ⊥
  behind p y ys x once e k (inl f) = lone y ys x once f.1 k
  behind p y ys x once e k (inr f) = not_both (p y) e f.0

  before : (p : X → Bool) (y : X) (ys : List X) (x : X) → (IsIn y ys → ⊥) → p y ≡ false → y ≡ x → IsFirst p (y ∷ ys) x → ⊥
  before p y ys x once e same (inl f) = not_both (p y) f.0 e
  before p y ys x once e same (inr f) = lone y ys x once same (first_in p ys x f.1)

  later_on : (p : X → Bool) (y : X) (ys : List X) (x : X) → p y ≡ false → (IsFirst p ys x → ⊥) → IsFirst p (y ∷ ys) x → ⊥
  later_on p y ys x e none (inl f) = not_both (p y) f.0 e
  later_on p y ys x e none (inr f) = none f.1

  pub without_from : (p : X → Bool) (xs : List X) (x : X) → AreOnce xs → IsIn x (without_first p xs) → IsIn x xs × (IsFirst p xs x → ⊥)
  without_from p [] x once k = (k, λ f. f)
  without_from p (y ∷ ys) x once k = one (p y) refl (without_from p ys x once.1) k
    where
      one : (v : Bool) → p y ≡ v → (IsIn x (without_first p ys) → IsIn x ys × (IsFirst p ys x → ⊥)) → IsIn x (cond v ys (y ∷ without_first p ys)) → IsIn x (y ∷ ys) × (IsFirst p (y ∷ ys) x → ⊥)
      one true e rest k = (inr k, behind p y ys x once.0 e k)
      one false e rest (inl same) = (inl same, before p y ys x once.0 e same)
      one false e rest (inr k) = (inr (rest k).0, later_on p y ys x e (rest k).1)

  pub without_to : (p : X → Bool) (xs : List X) (x : X) → IsIn x xs → (IsFirst p xs x → ⊥) → IsIn x (without_first p xs)
  without_to p [] x k none = k
  without_to p (y ∷ ys) x k none = one (p y) refl (without_to p ys x) k
    where
      one : (v : Bool) → p y ≡ v → (IsIn x ys → (IsFirst p ys x → ⊥) → IsIn x (without_first p ys)) → IsIn x (y ∷ ys) → IsIn x (cond v ys (y ∷ without_first p ys))
      one true e rest (inl same) = absurd (none (inl (e, same)))
      one true e rest (inr k) = k
      one false e rest (inl same) = inl same
      one false e rest (inr k) = inr (rest k (λ f. none (inr (e, f))))

  pub put_from : (p : X → Bool) (new : X) (xs : List X) (x : X) → AreOnce xs → IsIn x (in_place p new xs) → (new ≡ x) ⊎ (IsIn x xs × (IsFirst p xs x → ⊥))
  put_from p new [] x once (inl same) = inl same
  put_from p new [] x once (inr none) = absurd none
  put_from p new (y ∷ ys) x once k = one (p y) refl (put_from p new ys x once.1) k
    where
      one : (v : Bool) → p y ≡ v → (IsIn x (in_place p new ys) → (new ≡ x) ⊎ (IsIn x ys × (IsFirst p ys x → ⊥))) → IsIn x (cond v (new ∷ ys) (y ∷ in_place p new ys))
          → (new ≡ x) ⊎ (IsIn x (y ∷ ys) × (IsFirst p (y ∷ ys) x → ⊥))
      one true e rest (inl same) = inl same
      one true e rest (inr k) = inr (inr k, behind p y ys x once.0 e k)
      one false e rest (inl same) = inr (inl same, before p y ys x once.0 e same)
      one false e rest (inr k) = elim (rest k) [ inl same ↦ inl same | inr h ↦ inr (inr h.0, later_on p y ys x e h.1) ]

  pub put_new : (p : X → Bool) (new : X) (xs : List X) → IsIn new (in_place p new xs)
  put_new p new [] = inl refl
  put_new p new (y ∷ ys) = one (p y) (put_new p new ys)
    where
      one : (v : Bool) → IsIn new (in_place p new ys) → IsIn new (cond v (new ∷ ys) (y ∷ in_place p new ys))
      one true rest = inl refl
      one false rest = inr rest

  pub put_old : (p : X → Bool) (new : X) (xs : List X) (x : X) → IsIn x xs → (IsFirst p xs x → ⊥) → IsIn x (in_place p new xs)
  put_old p new [] x k none = absurd k
  put_old p new (y ∷ ys) x k none = one (p y) refl (put_old p new ys x) k
    where
      one : (v : Bool) → p y ≡ v → (IsIn x ys → (IsFirst p ys x → ⊥) → IsIn x (in_place p new ys)) → IsIn x (y ∷ ys) → IsIn x (cond v (new ∷ ys) (y ∷ in_place p new ys))
      one true e rest (inl same) = absurd (none (inl (e, same)))
      one true e rest (inr k) = inr k
      one false e rest (inl same) = inl same
      one false e rest (inr k) = inr (rest k (λ f. none (inr (e, f))))

  pub in_filter : (p : X → Bool) (xs : List X) (x : X) → IsIn x (filter p xs) → IsIn x xs × (p x ≡ true)
  in_filter p [] x k = absurd k
  in_filter p (y ∷ ys) x k = one (p y) refl (in_filter p ys x) k
    where
      one : (v : Bool) → p y ≡ v → (IsIn x (filter p ys) → IsIn x ys × (p x ≡ true)) → IsIn x (cond v (y ∷ filter p ys) (filter p ys)) → IsIn x (y ∷ ys) × (p x ≡ true)
      one true e rest (inl same) = (inl same, subst (λ (z : X). p z ≡ true) same e)
      one true e rest (inr k) = (inr (rest k).0, (rest k).1)
      one false e rest k = (inr (rest k).0, (rest k).1)

  pub filter_in : (p : X → Bool) (xs : List X) (x : X) → IsIn x xs → p x ≡ true → IsIn x (filter p xs)
  filter_in p [] x k t = k
  filter_in p (y ∷ ys) x k t = one (p y) refl (filter_in p ys x) k
    where
      one : (v : Bool) → p y ≡ v → (IsIn x ys → p x ≡ true → IsIn x (filter p ys)) → IsIn x (y ∷ ys) → IsIn x (cond v (y ∷ filter p ys) (filter p ys))
      one true e rest (inl same) = inl same
      one true e rest (inr k) = inr (rest k t)
      one false e rest (inl same) = absurd (not_both (p y) (subst (λ (z : X). p z ≡ true) (sym same) t) e)
      one false e rest (inr k) = rest k t

  -- ---- what holds of each

  pub all_of : (Q : X → Type 0) (xs : List X) (x : X) → AllByRecursion Q xs → IsIn x xs → Q x
  all_of Q [] x a k = absurd k
  all_of Q (y ∷ ys) x a (inl same) = subst Q same a.0
  all_of Q (y ∷ ys) x a (inr k) = all_of Q ys x a.1 k

  pub all_without : (Q : X → Type 0) (p : X → Bool) (xs : List X) → AllByRecursion Q xs → AllByRecursion Q (without_first p xs)
  all_without Q p [] a = tt
  all_without Q p (y ∷ ys) a = one (p y) (all_without Q p ys a.1)
    where
      one : (v : Bool) → AllByRecursion Q (without_first p ys) → AllByRecursion Q (cond v ys (y ∷ without_first p ys))
      one true rest = a.1
      one false rest = (a.0, rest)

  pub all_put : (Q : X → Type 0) (p : X → Bool) (new : X) (xs : List X) → AllByRecursion Q xs → Q new → AllByRecursion Q (in_place p new xs)
  all_put Q p new [] a q = (q, tt)
  all_put Q p new (y ∷ ys) a q = one (p y) (all_put Q p new ys a.1 q)
    where
      one : (v : Bool) → AllByRecursion Q (in_place p new ys) → AllByRecursion Q (cond v (new ∷ ys) (y ∷ in_place p new ys))
      one true rest = (q, a.1)
      one false rest = (a.0, rest)

  pub all_filter : (Q : X → Type 0) (p : X → Bool) (xs : List X) → AllByRecursion Q xs → AllByRecursion Q (filter p xs)
  all_filter Q p [] a = tt
  all_filter Q p (y ∷ ys) a = one (p y) (all_filter Q p ys a.1)
    where
      one : (v : Bool) → AllByRecursion Q (filter p ys) → AllByRecursion Q (cond v (y ∷ filter p ys) (filter p ys))
      one true rest = (a.0, rest)
      one false rest = rest

  -- ---- what holds of each pair

  pub pairs_without : (R : X → X → Type 0) (p : X → Bool) (xs : List X) → EachPair R xs → EachPair R (without_first p xs)
  pairs_without R p [] a = tt
  pairs_without R p (y ∷ ys) a = one (p y) (pairs_without R p ys a.1)
    where
      one : (v : Bool) → EachPair R (without_first p ys) → EachPair R (cond v ys (y ∷ without_first p ys))
      one true rest = a.1
      one false rest = (all_without (R y) p ys a.0, rest)

  pub pairs_put : (R : X → X → Type 0) (p : X → Bool) (new : X) (xs : List X) → EachPair R xs → AllByRecursion (λ x. R x new) xs → AllByRecursion (R new) xs → EachPair R (in_place p new xs)
  pairs_put R p new [] a front back = (tt, tt)
  pairs_put R p new (y ∷ ys) a front back = one (p y) (pairs_put R p new ys a.1 front.1 back.1)
    where
      one : (v : Bool) → EachPair R (in_place p new ys) → EachPair R (cond v (new ∷ ys) (y ∷ in_place p new ys))
      one true rest = (back.1, a.1)
      one false rest = (all_put (R y) p new ys a.0 front.0, rest)

  pub pairs_filter : (R : X → X → Type 0) (p : X → Bool) (xs : List X) → EachPair R xs → EachPair R (filter p xs)
  pairs_filter R p [] a = tt
  pairs_filter R p (y ∷ ys) a = one (p y) (pairs_filter R p ys a.1)
    where
      one : (v : Bool) → EachPair R (filter p ys) → EachPair R (cond v (y ∷ filter p ys) (filter p ys))
      one true rest = (all_filter (R y) p ys a.0, rest)
      one false rest = rest

  pub once_of : (R : X → X → Type 0) → ((x : X) → R x x → ⊥) → (xs : List X) → EachPair R xs → AreOnce xs
  once_of R irr [] a = tt
  once_of R irr (x ∷ xs) a = (λ k. irr x (all_of (R x) xs x a.0 k), once_of R irr xs a.1)
