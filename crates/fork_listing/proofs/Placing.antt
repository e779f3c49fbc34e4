-- The line at a place keeps each rule with the lines before it.
use Rattle.fork_listing.proofs.Common.{◌≡◌, ℕ, zero, suc, ◌+◌, ◌-◌, ◌<◌, ◌≤◌, ◌⊎◌, inl, inr, List, Option, Some, None, sym, ap, subst, ◌∙◌, arith, slice_get, option_and_then, slice_get_within, ListedTarget, arrival_of, ended_at, Follows, FollowsTarget}
use Rattle.fork_listing.proofs.Common.{HasDepth, IsInPlace, IsPlaced, IsNear, HoldsBelow, cases, one_at, there, IsShallow}
use Rattle.fork_listing.specs.inner.Near.{FallsTo}

pub holds_next : (P : ℕ → Type 0) (n : ℕ) → HoldsBelow P n → P n → HoldsBelow P (n + 1)
holds_next P n holds at = λ m lt. elim (cases m n lt) [ inl less ↦ holds m less | inr same ↦ subst P (sym same) at ]

pub holds_all : (P : ℕ → Type 0) (n bound : ℕ) → bound ≤ n → HoldsBelow P n → HoldsBelow P bound
holds_all P n bound le holds = λ m lt. holds m (omega arith)

-- ---- q under one parent

abbrev at_or : Option ℕ → ℕ
at_or None = 0
at_or (Some at) = at

-- initial targets come first, then those of the parent that ended first
abbrev since : List ListedTarget → Option ℕ → ℕ
since targets None = 0
since targets (Some parent) = suc (at_or (ended_at targets parent))

abbrev FallsOr : ℕ → ℕ → ℕ → ℕ → Type 0
FallsOr s q t r = (s < t) ⊎ ((s ≡ t) × (r ≤ q))

abbrev Falls : List ListedTarget → ListedTarget → ListedTarget → Type 0
Falls targets a b = FallsOr (since targets a.parent) a.q (since targets b.parent) b.q

falls_on : (s q t r u p : ℕ) → FallsOr s q t r → FallsOr t r u p → FallsOr s q u p
falls_on s q t r u p fact other = grind arith

falls_next : (targets : List ListedTarget) (p r : Option ℕ) (q s : ℕ) → Follows targets p r → (p ≡ r → ⊥) ⊎ (s ≤ q) → FallsOr (since targets p) q (since targets r) s
falls_next targets p r q s follows falls = grind arith

abbrev NearAt : ℕ → List ListedTarget → ℕ → Type 0
NearAt most targets n = (target : ListedTarget) → slice_get targets n ≡ Some target → IsNear most targets n target

-- neighbours decide
far : (most : ℕ) (targets : List ListedTarget) (n m : ℕ) (a b : ListedTarget) → m < n → slice_get targets m ≡ Some a → slice_get targets n ≡ Some b → HoldsBelow (NearAt most targets) (n + 1) → Falls targets a b
far most targets zero m a b lt is_a is_b near = absurd (omega arith)
far most targets (suc n) m a b lt is_a is_b near =
    let mid = there targets n (omega (arith, slice_get_within targets (suc n) b is_b)) in
    let here = near (suc n) (omega arith) b is_b in
    let P : Option ListedTarget → Type 0 = λ o. FollowsTarget targets o b.parent × FallsTo o b in
    let next : P (Some mid.0) = subst P mid.1 (here.2, here.3) in
    let last : Falls targets mid.0 b = falls_next targets mid.0.parent b.parent mid.0.q b.q next.0 next.1 in
    elim (cases m n (omega arith)) [
      | inl less ↦
          falls_on (since targets a.parent) a.q (since targets mid.0.parent) mid.0.q (since targets b.parent) b.q
          (far most targets n m a mid.0 less is_a mid.1 (λ k small. near k (omega arith))) last
      | inr same ↦ subst (λ (t : ListedTarget). Falls targets t b) (one_at targets n mid.0 a mid.1 (subst (λ (k : ℕ). slice_get targets k ≡ Some a) same is_a)) last
    ]

low : (s q t r : ℕ) → FallsOr s q t r → s ≡ t → r ≤ q
low s q t r fact e = grind arith

pub near_of : (most : ℕ) (targets : List ListedTarget) (n : ℕ) (target : ListedTarget) → IsInPlace most targets n target → IsNear most targets n target
near_of most targets n target place = grind arith

-- ---- the line at a place

abbrev pub IsFresh : List ListedTarget → ℕ → Type 0
IsFresh targets n = (m at : ℕ) → m < n → ended_at targets m ≡ Some at → ended_at targets n ≡ Some at → ⊥

pub fresh_of : (most : ℕ) (targets : List ListedTarget) (n : ℕ) (target : ListedTarget) → slice_get targets n ≡ Some target → IsInPlace most targets n target → IsFresh targets n
fresh_of most targets n target here place m at lt e mine = place.apart m at lt e (sym (ap (option_and_then (λ (t : ListedTarget). arrival_of t.end)) here) ∙ mine)

pub placed_more : (most : ℕ) (targets : List ListedTarget) (n : ℕ) (target : ListedTarget) → slice_get targets n ≡ Some target → IsNear most targets n target → IsFresh targets n → HoldsBelow (IsPlaced most targets) n → HoldsBelow (IsPlaced most targets) (n + 1)
placed_more most targets n target here near fresh placed = holds_next (IsPlaced most targets) n placed (λ t is. subst (IsInPlace most targets n) (one_at targets n target t here is) place)
  where
    nears : HoldsBelow (NearAt most targets) (n + 1)
    nears = holds_next (NearAt most targets) n (λ k less t is. near_of most targets k t (placed k less t is)) (λ t is. subst (IsNear most targets n) (one_at targets n target t here is) near)

    place : IsInPlace most targets n target
    place = record {
      number = near.0;
      parent = near.1;
      follows = near.2;
      falls = λ m other lt is same. low _ _ _ _ (far most targets n m other target lt is here nears) (ap (since targets) same);
      apart = λ m at lt e mine. fresh m at lt e (ap (option_and_then (λ (t : ListedTarget). arrival_of t.end)) here ∙ mine);
      later = near.4;
      depth = near.5;
    }

-- ---- depth

pub below : (targets : List ListedTarget) (p : ℕ) (target : ListedTarget) (most : ℕ) → slice_get targets p ≡ Some target → 0 < most → IsShallow targets target.parent (most - 1) → IsShallow targets (Some p) most
below targets p target most here some h = (suc h.0, (target, here, h.1), omega (arith, h.2))

pub above : (targets : List ListedTarget) (p : ℕ) (target : ListedTarget) (most : ℕ) → slice_get targets p ≡ Some target → IsShallow targets (Some p) most → IsShallow targets target.parent (most - 1)
above targets p target most here h = go h.0 h.1 h.2
  where
    go : (deep : ℕ) → HasDepth targets (Some p) deep → deep ≤ most → IsShallow targets target.parent (most - 1)
    go zero has le = absurd has
    go (suc deep) has le = (deep, subst (λ (t : ListedTarget). HasDepth targets t.parent deep) (one_at targets p has.0 target has.1 here) has.2, omega arith)
