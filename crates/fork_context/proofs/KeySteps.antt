-- Targets with one key, found target by target.
use Rattle.fork_context.proofs.Common.{◌≡◌, ℕ, zero, suc, ◌+◌, ◌<◌, ◌≤◌, Bool, true, false, List, [], ◌∷◌, length, Some, refl, ap, arith, sym, take, get_or, slice_get, nat_eq, ◌||◌, list_any, pointwise, Target, HasTwice, common_steps}
use Rattle.std.specs.Cmp.Lexicographic.{same_text, other_text}
use Rattle.fork_context.specs.Refusals.{keys_of_targets}

-- one of these targets has the key
abbrev pub has_key : List ℕ → List Target → Bool
has_key key targets = list_any (λ (target : Target). pointwise nat_eq key target.key) targets

-- up to this target no key stands twice
abbrev pub NoneTwice : List Target → ℕ → Type 0
NoneTwice targets below =
    (m n : ℕ) (key : List ℕ) → m < n → n < below → slice_get (keys_of_targets targets) m ≡ Some key → slice_get (keys_of_targets targets) n ≡ Some key → ⊥

found : (targets : List Target) (n : ℕ) (key : List ℕ) → has_key key (take n targets) ≡ true
    → (m : ℕ) × (m < n) × (slice_get (keys_of_targets targets) m ≡ Some key)
found targets zero key e = absurd cc
found [] (suc n) key e = absurd cc
found (t ∷ targets) (suc n) key e = go (pointwise nat_eq key t.key) refl (λ h. found targets n key h) e
  where
    go : (b : Bool) → pointwise nat_eq key t.key ≡ b
        → (has_key key (take n targets) ≡ true → (m : ℕ) × (m < n) × (slice_get (keys_of_targets targets) m ≡ Some key))
        → (b || has_key key (take n targets)) ≡ true
        → (m : ℕ) × (m < suc n) × (slice_get (keys_of_targets (t ∷ targets)) m ≡ Some key)
    go true is rest e = (0, omega arith, ap Some (sym (same_text key t.key (sym is))))
    go false is rest e = let at = rest e in (suc at.0, (let lt : at.0 < n = at.1 in omega arith), at.2)

not_found : (targets : List Target) (n : ℕ) (key : List ℕ) → has_key key (take n targets) ≡ false
    → (m : ℕ) → m < n → slice_get (keys_of_targets targets) m ≡ Some key → ⊥
not_found targets zero key e m lt is = omega arith
not_found [] (suc n) key e m lt is = cc
not_found (t ∷ targets) (suc n) key e m lt is = go (pointwise nat_eq key t.key) refl (λ h k. not_found targets n key h k) e m lt is
  where
    go : (b : Bool) → pointwise nat_eq key t.key ≡ b
        → (has_key key (take n targets) ≡ false → (m : ℕ) → m < n → slice_get (keys_of_targets targets) m ≡ Some key → ⊥)
        → (b || has_key key (take n targets)) ≡ false
        → (m : ℕ) → m < suc n → slice_get (keys_of_targets (t ∷ targets)) m ≡ Some key → ⊥
    go true differ rest e m lt is = cc
    go false differ rest e zero lt is =
        let same : t.key ≡ key = cc in
        other_text key t.key (sym differ) (sym same)
    go false differ rest e (suc m) lt is = rest e m (omega arith) is

key_at : (targets : List Target) (n : ℕ) (target : Target) → n < length targets → target ≡ get_or targets n target
    → slice_get (keys_of_targets targets) n ≡ Some target.key
key_at [] n target lt is = absurd (omega arith)
key_at (t ∷ targets) zero target lt is = ap (λ (x : Target). Some x.key) (sym is)
key_at (t ∷ targets) (suc n) target lt is = key_at targets n target (omega arith) is

key_within : (targets : List Target) (n : ℕ) (key : List ℕ) → slice_get (keys_of_targets targets) n ≡ Some key → n < length targets
key_within [] n key is = absurd cc
key_within (t ∷ targets) zero key is = omega arith
key_within (t ∷ targets) (suc n) key is = let lt : n < length targets = key_within targets n key is in omega arith

pub twice_at : (targets : List Target) (n : ℕ) (target : Target) → n < length targets → target ≡ get_or targets n target
    → has_key target.key (take n targets) ≡ true → HasTwice targets
twice_at targets n target lt is e = grind (arith, common_steps, found, key_at)

pub none_more : (targets : List Target) (n : ℕ) (target : Target) → n < length targets → target ≡ get_or targets n target
    → has_key target.key (take n targets) ≡ false → NoneTwice targets n → NoneTwice targets (n + 1)
none_more targets n target lt is e none m k key less below one two = grind (arith, common_steps, key_at targets n target lt is, not_found)

pub none_twice : (targets : List Target) (n : ℕ) → length targets ≤ n → NoneTwice targets n → HasTwice targets → ⊥
none_twice targets n all none twice = grind (arith, common_steps, key_within)
