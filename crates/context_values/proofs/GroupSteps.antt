-- The pairs of groups and places, group after group.
use Rattle.context_values.proofs.Common.{◌≡◌, ℕ, zero, suc, ◌+◌, ◌<◌, ◌≤◌, List, [], ◌∷◌, ◌++◌, length, map, refl, ap, arith, sym, ◌∙◌, subst, take, get_or, append_assoc, add-one, All, slice_get, take_more, append-nil, most_targets, numbers_below}
use Rattle.context_values.proofs.Common.{falling, is_value, places_of, groups_of, in_group, numbered_from, lists_of, common_steps}
use Rattle.std.proofs.Common.{Vec}
use Rattle.std.proofs.lemmas.List.Elements.{All-append, All-nil, All-filter}
use Rattle.fork_model.specs.Groups.{with_q}
use Rattle.fork_model.proofs.laws.ContactLemmas.{length-map}

in_group-append : (group : ℕ) (xs ys : List ℕ) → in_group group (xs ++ ys) ≡ in_group group xs ++ in_group group ys
in_group-append group [] ys = refl
in_group-append group (x ∷ xs) ys = ap (λ rest. (group, x) ∷ rest) (in_group-append group xs ys)

-- one more place of the group
pub in_group_more : (group : ℕ) (places : List ℕ) (i : ℕ) → i < length places
    → in_group group (take (i + 1) places) ≡ in_group group (take i places) ++ (group, get_or places i 0) ∷ []
in_group_more group places i lt = grind (arith, common_steps, take_more, in_group-append)

-- one more group
numbered_from_more : {A : Type 0} (k : ℕ) (groups : List (Vec ℕ A)) (i : ℕ) (places : Vec ℕ A) → i < length groups → places ≡ get_or groups i places
    → numbered_from k (take (suc i) (lists_of groups)) ≡ numbered_from k (take i (lists_of groups)) ++ in_group (k + i) places.items
numbered_from_more k [] i places lt is = absurd (omega arith)
numbered_from_more {A = A} k (x ∷ groups) zero places lt is = grind (arith, common_steps, append-nil)
numbered_from_more k (x ∷ groups) (suc i) places lt is =
    let rest : numbered_from (suc k) (take (suc i) (lists_of groups)) ≡ numbered_from (suc k) (take i (lists_of groups)) ++ in_group (suc k + i) places.items =
    numbered_from_more (suc k) groups i places (omega arith) is in
    grind (arith, common_steps, append_assoc)

pub numbered_more : {A : Type 0} (groups : List (Vec ℕ A)) (i : ℕ) (places : Vec ℕ A) → i < length groups → places ≡ get_or groups i places
    → numbered_from 0 (take (i + 1) (lists_of groups)) ≡ numbered_from 0 (take i (lists_of groups)) ++ in_group i places.items
numbered_more groups i places lt is = grind (arith, common_steps, add-one, numbered_from_more)

-- there are no more groups than places
length-with_q : (q : ℕ) (qs : List ℕ) → length (with_q q qs) ≤ length qs + 1
length-with_q q [] = omega arith
length-with_q q (o ∷ os) = grind (arith, common_steps, length-with_q q os)

length-falling : (qs : List ℕ) → length (falling qs) ≤ length qs
length-falling [] = omega arith
length-falling (q ∷ qs) = omega (arith, length-with_q q (falling qs), length-falling qs)

pub groups_few : {A : Type 0} (qs : List ℕ) (groups : List (Vec ℕ A)) → lists_of groups ≡ groups_of qs → length groups ≤ length qs
groups_few qs groups is = grind (arith, common_steps, length-map, length-falling)

-- each place stands in the list
All-below : (n m : ℕ) → n ≤ m → All (λ k. k < m) (numbers_below n)
All-below zero m le = All-nil (λ k. k < m)
All-below (suc n) m le =
    All-append (λ k. k < m) (numbers_below n) (n ∷ []) (All-below n m (omega arith)) (one m n (omega arith))
  where
    one : (m n : ℕ) → n < m → All (λ k. k < m) (n ∷ [])
    one m n lt zero d h = lt
    one m n lt (suc k) d h = absurd (omega arith)

All-places : (qs : List ℕ) (m q : ℕ) → length qs ≤ m → All (λ k. k < m) (places_of qs q)
All-places qs m q le =
    All-filter (λ place. is_value q (slice_get qs place)) (λ k. k < m) (numbers_below (length qs)) (All-below (length qs) m le)

All-group : {A : Type 0} (qs values : List ℕ) (groups : List (Vec ℕ A)) (i : ℕ) (places : Vec ℕ A) → length qs ≤ most_targets
    → lists_of groups ≡ map (places_of qs) values → i < length groups → places ≡ get_or groups i places → All (λ k. k < most_targets) places.items
All-group qs values [] i places few is lt at = absurd (omega arith)
All-group qs [] (x ∷ groups) i places few is lt at = absurd cc
All-group {A = A} qs (q ∷ values) (x ∷ groups) zero places few is lt at =
    let here : x.items ≡ places_of qs q = cc in
    let same : places_of qs q ≡ places.items = sym here ∙ ap (λ (v : Vec ℕ A). v.items) (sym at) in
    subst (λ (xs : List ℕ). All (λ k. k < most_targets) xs) same (All-places qs most_targets q few)
All-group qs (q ∷ values) (x ∷ groups) (suc i) places few is lt at =
    let rest : lists_of groups ≡ map (places_of qs) values = cc in
    All-group qs values groups i places few rest (omega arith) at

pub group_within : {A : Type 0} (qs : List ℕ) (groups : List (Vec ℕ A)) (i : ℕ) (places : Vec ℕ A) → length qs ≤ most_targets
    → lists_of groups ≡ groups_of qs → i < length groups → places ≡ get_or groups i places → All (λ k. k < most_targets) places.items
group_within qs groups i places few is lt at = All-group qs (falling qs) groups i places few is lt at
