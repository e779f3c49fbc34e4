-- The path that the code finds.
use Rattle.fork_tree.proofs.Common.{◌≡◌, ℕ, zero, suc, ◌<◌, List, [], ◌∷◌, ◌++◌, Option, Some, None, slice_get, refl, ap, ◌∙◌, arith, NodePlace, above, path_at, path_to, path_of, AreOlder, common_steps}

-- more steps change no path
pub path_steps : (all : List NodePlace) (k l n : ℕ) → AreOlder all → n < k → n < l → path_to all k n ≡ path_to all l n
path_steps all zero l n older h i = absurd (omega arith)
path_steps all (suc k) zero n older h i = absurd (omega arith)
path_steps all (suc k) (suc l) n older h i =
    at (slice_get all n) refl (λ m less. path_steps all k l m older (omega arith) (omega arith))
  where
    up : (p : NodePlace) → slice_get all n ≡ Some p → (o : Option ℕ) → p.parent ≡ o → ((m : ℕ) → m < n → path_to all k m ≡ path_to all l m)
        → above o (path_to all k) ≡ above o (path_to all l)
    up p is None e rest = refl
    up p is (Some m) e rest = rest m (older n p m is e)

    at : (o : Option NodePlace) → slice_get all n ≡ o → ((m : ℕ) → m < n → path_to all k m ≡ path_to all l m)
        → path_at o (path_to all k) ≡ path_at o (path_to all l)
    at None e rest = refl
    at (Some p) e rest = ap (λ x. x ++ p.group ∷ p.place ∷ []) (up p e p.parent refl rest)

-- a path goes on from the row above
pub path_below : (all : List NodePlace) (n m : ℕ) (p : NodePlace) → AreOlder all → slice_get all n ≡ Some p → p.parent ≡ Some m
    → path_of all n ≡ path_of all m ++ p.group ∷ p.place ∷ []
path_below all n m p older is up = grind (arith, path_steps)

pub path_top : (all : List NodePlace) (n : ℕ) (p : NodePlace) → slice_get all n ≡ Some p → p.parent ≡ None → path_of all n ≡ p.group ∷ p.place ∷ []
path_top all n p is up = ap (λ o. path_at o (path_to all n)) is ∙ ap (λ o. above o (path_to all n) ++ p.group ∷ p.place ∷ []) up

pub traced_below : (all : List NodePlace) (n m : ℕ) (p : NodePlace) (old mid last : List ℕ) → AreOlder all → slice_get all n ≡ Some p → p.parent ≡ Some m
    → mid ≡ old ++ path_of all m → last ≡ (mid ++ p.group ∷ []) ++ p.place ∷ [] → last ≡ old ++ path_of all n
traced_below all n m p old mid last older is up e l = grind (arith, common_steps, path_below)

pub traced_top : (all : List NodePlace) (n : ℕ) (p : NodePlace) (old mid last : List ℕ) → slice_get all n ≡ Some p → p.parent ≡ None
    → mid ≡ old → last ≡ (mid ++ p.group ∷ []) ++ p.place ∷ [] → last ≡ old ++ path_of all n
traced_top all n p old mid last is up e l = grind (arith, common_steps)

-- the path found in an empty list
pub path_traced : (all seen : List NodePlace) (n : ℕ) (path items old : List ℕ) → path ≡ items → items ≡ old ++ path_of seen n → old ≡ [] → seen ≡ all
    → path ≡ path_of all n
path_traced all seen n path items old e f g h = e ∙ f ∙ ap (λ x. x ++ path_of seen n) g ∙ ap (λ x. path_of x n) h
