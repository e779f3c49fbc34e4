-- A walk over values that stops at the first that has a property.
use Rattle.sip_route.proofs.Common.{◌≡◌, ℕ, suc, ◌<◌, Bool, true, false, List, ◌∷◌, length, get_or, sym, subst, ◌∙◌, inl, inr, arith, ◌↔◌, IsTrue, false≢true, common_steps}
use Rattle.std.proofs.Common.{◌⊎◌}
use Rattle.std.specs.List.{Any}

-- ---- some element of a list

pub any_later : {X : Type 0} (P : X → Type 0) (x : X) (xs : List X) → Any P xs → Any P (x ∷ xs)
any_later P x xs a = let lt = a.2 in (suc a.0, a.1, omega (arith, lt), a.3, a.4)

split_at : {X : Type 0} (P : X → Type 0) (x : X) (xs : List X) (k : ℕ) (y : X) → k < length (x ∷ xs) → get_or (x ∷ xs) k y ≡ y → P y → P x ⊎ Any P xs
split_at P x xs k y lt e p = grind (arith, common_steps)

pub any_split : {X : Type 0} (P : X → Type 0) (x : X) (xs : List X) → Any P (x ∷ xs) → P x ⊎ Any P xs
any_split P x xs a = split_at P x xs a.0 a.1 a.2 a.3 a.4

abbrev pub SameAny : {X : Type 0} → (X → Type 0) → List X → List X → Type 0
SameAny P xs ys = (Any P xs → Any P ys) × (Any P ys → Any P xs)

-- an element that has it is found
pub walk_found : {X : Type 0} (P : X → Type 0) (all left later : List X) (x : X) (r : Bool) → left ≡ x ∷ later → (IsTrue r ↔ P x) → r ≡ true → SameAny P left all → IsTrue true ↔ Any P all
walk_found P all left later x r e is so same = grind arith

-- one that hasn't is passed over
pub walk_past : {X : Type 0} (P : X → Type 0) (all left later : List X) (x : X) (r : Bool) → left ≡ x ∷ later → (IsTrue r ↔ P x) → r ≡ false → SameAny P left all → SameAny P later all
walk_past P all left later x r e is never same = (
  λ a. same.0 (subst (λ (ls : List _). Any P ls) (sym e) (any_later P x later a)),
  λ a. elim (any_split P x later (subst (λ (ls : List _). Any P ls) e (same.1 a))) [
    | inl p ↦ absurd (false≢true (sym never ∙ is.1 p))
    | inr rest ↦ rest
  ],
)
