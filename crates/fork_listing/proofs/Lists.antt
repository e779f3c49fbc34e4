-- Options and lists: what most of the proofs cite.
use Rattle.std.proofs.Common.{◌≡◌, ℕ, zero, suc, ◌+◌, ◌<◌, ◌≤◌, ◌⊎◌, List, [], ◌∷◌, length, Option, Some, None, refl, sym, subst, ◌∙◌, arith, slice_get, option_and_then}
use Rattle.std.specs.List.{AllByRecursion}
use Rattle.std.specs.Prelude.{◌↔◌}
use Rattle.std.specs.Option.{MatchOption, option_map}
use Rattle.fork_listing.specs.First.{IsFirstToFail}
use Rattle.std.proofs.lemmas.Grind.{common_steps}

pub some_same : {X : Type 0} {x y : X} → Some x ≡ Some y → x ≡ y
some_same e = cc

pub none_some : {X : Type 0} {x : X} → None ≡ Some x → ⊥
none_some e = absurd cc

pub cases : (m n : ℕ) → m < n + 1 → (m < n) ⊎ (m ≡ n)
cases m n lt = grind arith

pub there : {X : Type 0} (xs : List X) (n : ℕ) → n < length xs → (x : X) × (slice_get xs n ≡ Some x)
there [] n lt = absurd (omega arith)
there (x ∷ xs) zero lt = (x, refl)
there (x ∷ xs) (suc n) lt = there xs n (omega arith)

pub one_at : {X : Type 0} (xs : List X) (n : ℕ) (x y : X) → slice_get xs n ≡ Some x → slice_get xs n ≡ Some y → x ≡ y
one_at xs n x y e f = some_same (sym e ∙ f)

-- what holds of each holds of the one at a place
pub all_at : {X : Type 0} (P : X → Type 0) (xs : List X) → AllByRecursion P xs → (n : ℕ) (x : X) → slice_get xs n ≡ Some x → P x
all_at P [] all n x is = absurd (none_some is)
all_at P (y ∷ xs) all zero x is = subst P (some_same is) all.0
all_at P (y ∷ xs) all (suc n) x is = all_at P xs all.1 n x is

-- what is read of an option was there
pub looked : {X Y : Type 0} (f : X → Option Y) (o : Option X) {y : Y} → option_and_then f o ≡ Some y → (x : X) × (o ≡ Some x) × (f x ≡ Some y)
looked f o e = grind (arith, common_steps, none_some)

pub mapped : {X Y : Type 0} (f : X → Y) (o : Option X) {y : Y} → option_map f o ≡ Some y → (x : X) × (o ≡ Some x) × (y ≡ f x)
mapped f o e = grind (arith, common_steps, none_some, some_same)

-- what `find` over the places answers is the first to fail
pub first_to_fail : (P : ℕ → Type 0) (bound : ℕ) (r : Option ℕ) → MatchOption r ((k : ℕ) → 0 ≤ k → k < bound → P k) (λ i. (0 ≤ i) × (i < bound) × (P i → ⊥) × ((k : ℕ) → 0 ≤ k → k < i → P k))
    → IsFirstToFail P bound r
first_to_fail P bound r h = grind (arith, common_steps)

pub first_same : (P Q : ℕ → Type 0) → ((n : ℕ) → P n ↔ Q n) → (bound : ℕ) (r : Option ℕ) → IsFirstToFail P bound r → IsFirstToFail Q bound r
first_same P Q same bound r h = grind (arith, common_steps)
