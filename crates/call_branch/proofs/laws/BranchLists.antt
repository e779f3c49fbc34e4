-- Lists of the parts of branches: what changing one part leaves, and what stands at each place.
use Rattle.call_branch.proofs.Common.{◌≡◌, ℕ, zero, suc, ◌<◌, ap, refl, sym, arith, List, [], ◌∷◌, Option, Some, None, length, ◌∙◌, slice_set, slice_get, ◌++◌, ◌+◌, map, Branch, found, with_branch, changed_branch, no_branches, Row, no_branch}
use Rattle.std.proofs.Common.{get_or}

pub set_is : (branches : List (Option Branch)) (n : ℕ) (branch : Branch) → slice_set branches n (Some branch) ≡ with_branch branches n branch
set_is [] n branch = refl
set_is (l ∷ branches) zero branch = refl
set_is (l ∷ branches) (suc n) branch = ap (λ (ls : List (Option Branch)). l ∷ ls) (set_is branches n branch)

pub length_with_branch : (branches : List (Option Branch)) (n : ℕ) (branch : Branch) → length (with_branch branches n branch) ≡ length branches
length_with_branch [] n branch = refl
length_with_branch (l ∷ branches) zero branch = refl
length_with_branch (l ∷ branches) (suc n) branch = ap suc (length_with_branch branches n branch)

pub changed_some : (f : Branch → Branch) (branches : List (Option Branch)) (n : ℕ) (branch new : Branch) → slice_get branches n ≡ Some (Some branch) → new ≡ f branch
    → slice_set branches n (Some new) ≡ changed_branch f branches n
changed_some f [] n branch new is e = absurd cc
changed_some f (l ∷ branches) zero branch new is e =
    let same : l ≡ Some branch = cc in
    rw (same, e) refl
changed_some f (l ∷ branches) (suc n) branch new is e = ap (λ (ls : List (Option Branch)). l ∷ ls) (changed_some f branches n branch new is e)

pub changed_none : (f : Branch → Branch) (branches : List (Option Branch)) (n : ℕ) → slice_get branches n ≡ Some None → slice_set branches n None ≡ changed_branch f branches n
changed_none f [] n is = absurd cc
changed_none f (l ∷ branches) zero is =
    let same : l ≡ None = cc in
    rw same refl
changed_none f (l ∷ branches) (suc n) is = ap (λ (ls : List (Option Branch)). l ∷ ls) (changed_none f branches n is)

-- where there is a part, its change is another part
pub changed_is : (f : Branch → Branch) (branches : List (Option Branch)) (n : ℕ) (branch : Branch) → slice_get branches n ≡ Some (Some branch) → changed_branch f branches n ≡ with_branch branches n (f branch)
changed_is f [] n branch is = absurd cc
changed_is f (l ∷ branches) zero branch is =
    let same : l ≡ Some branch = cc in
    rw same refl
changed_is f (l ∷ branches) (suc n) branch is = ap (λ (ls : List (Option Branch)). l ∷ ls) (changed_is f branches n branch is)

pub length_changed : (f : Branch → Branch) (branches : List (Option Branch)) (n : ℕ) → length (changed_branch f branches n) ≡ length branches
length_changed f [] n = refl
length_changed f (l ∷ branches) zero = refl
length_changed f (l ∷ branches) (suc n) = ap suc (length_changed f branches n)

-- what stands at a place that there is
pub get_is : (branches : List (Option Branch)) (n : ℕ) (l : Option Branch) → n < length branches → l ≡ get_or branches n l → slice_get branches n ≡ Some l
get_is [] n l lt e = absurd (omega arith)
get_is (x ∷ branches) zero l lt e = ap Some (sym e)
get_is (x ∷ branches) (suc n) l lt e = get_is branches n l (omega arith) e

pub found_is : (l : Option (Option Branch)) (branch : Branch) → found l ≡ Some branch → l ≡ Some (Some branch)
found_is None branch e = absurd cc
found_is (Some None) branch e = absurd cc
found_is (Some (Some x)) branch e = ap Some e

pub with_more : (branches more : List (Option Branch)) (n : ℕ) (branch : Branch) → n < length branches → with_branch (branches ++ more) n branch ≡ with_branch branches n branch ++ more
with_more [] more n branch lt = absurd (omega arith)
with_more (l ∷ branches) more zero branch lt = refl
with_more (l ∷ branches) more (suc n) branch lt = ap (λ (ls : List (Option Branch)). l ∷ ls) (with_more branches more n branch (omega arith))

pub get_more : (branches more : List (Option Branch)) (n : ℕ) (branch : Branch) → slice_get branches n ≡ Some (Some branch) → slice_get (branches ++ more) n ≡ Some (Some branch)
get_more [] more n branch is = absurd cc
get_more (l ∷ branches) more zero branch is = is
get_more (l ∷ branches) more (suc n) branch is = get_more branches more n branch is

pub get_with : (branches : List (Option Branch)) (n : ℕ) (branch : Branch) → n < length branches → slice_get (with_branch branches n branch) n ≡ Some (Some branch)
get_with [] n branch lt = absurd (omega arith)
get_with (l ∷ branches) zero branch lt = refl
get_with (l ∷ branches) (suc n) branch lt = get_with branches n branch (omega arith)

pub with_twice : (branches : List (Option Branch)) (n : ℕ) (a b : Branch) → with_branch (with_branch branches n a) n b ≡ with_branch branches n b
with_twice [] n a b = refl
with_twice (l ∷ branches) zero a b = refl
with_twice (l ∷ branches) (suc n) a b = ap (λ (ls : List (Option Branch)). l ∷ ls) (with_twice branches n a b)

pub get_below : (branches : List (Option Branch)) (n : ℕ) (branch : Branch) → slice_get branches n ≡ Some (Some branch) → n < length branches
get_below [] n branch is = absurd cc
get_below (l ∷ branches) zero branch is = omega arith
get_below (l ∷ branches) (suc n) branch is = let rest : n < length branches = get_below branches n branch is in omega arith

-- ---- branches whose request was not sent

pub no_branches_more : (n : ℕ) → no_branches n ++ None ∷ [] ≡ no_branches (n + 1)
no_branches_more n = more n ∙ ap no_branches (let e : suc n ≡ n + 1 = omega arith in e)
  where
    more : (k : ℕ) → no_branches k ++ None ∷ [] ≡ no_branches (suc k)
    more zero = refl
    more (suc k) = ap (λ (ls : List (Option Branch)). None ∷ ls) (more k)

pub no_branches_of : (rows : List Row) → no_branches (length rows) ≡ map no_branch rows
no_branches_of [] = refl
no_branches_of (row ∷ rows) = ap (λ (ls : List (Option Branch)). None ∷ ls) (no_branches_of rows)

pub length_no_branches : (n : ℕ) → length (no_branches n) ≡ n
length_no_branches zero = refl
length_no_branches (suc n) = ap suc (length_no_branches n)
