-- Targets of one q are one group, in the order of the list.
use Rattle.context_values.proofs.Common.{◌≡◌, ℕ, zero, suc, ◌<◌, ◌==◌, Bool, true, List, [], ◌∷◌, ◌++◌, length, refl, ap, arith, ◌∙◌, slice_get, append-nil, common_steps}
use Rattle.context_values.proofs.Common.{falling, is_value, places_of, in_group, numbered_from, numbers_below}
use Rattle.std.specs.Prelude.{filter, map}
use Rattle.std.specs.List.{list_all}
use Rattle.std.proofs.lemmas.List.Elements.{filter-append}
use Rattle.fork_model.specs.Groups.{numbered}
use Rattle.context_values.specs.RowExtras.{q_at, q_of_pair}
use Rattle.std.proofs.Common.{◌≤◌, take, get_or, sym, take_all, add-one}
use Rattle.std.proofs.lemmas.List.{map-append}

abbrev are_all : ℕ → List ℕ → Bool
are_all q qs = list_all (λ other. other == q) qs

one_value : (q : ℕ) (qs : List ℕ) → are_all q qs ≡ true → falling (q ∷ qs) ≡ q ∷ []
one_value q [] e = refl
one_value q (other ∷ others) e = grind (arith, common_steps, one_value other others)

value_at : (q : ℕ) (qs : List ℕ) (k : ℕ) → are_all q qs ≡ true → k < length qs → is_value q (slice_get qs k) ≡ true
value_at q [] k e lt = absurd (omega arith)
value_at q (other ∷ others) zero e lt = grind (arith, common_steps)
value_at q (other ∷ others) (suc k) e lt = value_at q others k (grind (arith, common_steps)) (omega arith)

all_kept : (test : ℕ → Bool) (n : ℕ) → ((k : ℕ) → k < n → test k ≡ true) → filter test (numbers_below n) ≡ numbers_below n
all_kept test zero h = refl
all_kept test (suc n) h =
    let before = all_kept test n (λ k lt. h k (omega arith)) in
    let last = h n (omega arith) in
    filter-append test (numbers_below n) (n ∷ []) ∙ grind (arith, common_steps)

are_with : (q : ℕ) (qs : List ℕ) → are_all q qs ≡ true → are_all q (q ∷ qs) ≡ true
are_with q qs e = grind (arith, common_steps)

every_place : (q : ℕ) (qs : List ℕ) → are_all q qs ≡ true → places_of (q ∷ qs) q ≡ numbers_below (length (q ∷ qs))
every_place q qs e = all_kept (λ place. is_value q (slice_get (q ∷ qs) place)) (length (q ∷ qs)) (λ k lt. value_at q (q ∷ qs) k (are_with q qs e) lt)

one_group : (q : ℕ) (qs : List ℕ) → are_all q qs ≡ true → numbered (q ∷ qs) ≡ in_group 0 (numbers_below (length (q ∷ qs)))
one_group q qs e =
    ap (λ values. numbered_from 0 (map (places_of (q ∷ qs)) values)) (one_value q qs e)
    ∙ append-nil (in_group 0 (places_of (q ∷ qs) q))
    ∙ ap (in_group 0) (every_place q qs e)

pub all_one_group : (q : ℕ) (qs : List ℕ) → 0 < length qs → are_all q qs ≡ true → numbered qs ≡ in_group 0 (numbers_below (length qs))
all_one_group q [] some e = absurd (omega arith)
all_one_group q (other ∷ others) some e = one_group other others (grind (arith, common_steps))

in_group-append : (group : ℕ) (xs ys : List ℕ) → in_group group (xs ++ ys) ≡ in_group group xs ++ in_group group ys
in_group-append group [] ys = refl
in_group-append group (x ∷ xs) ys = ap (λ rest. (group, x) ∷ rest) (in_group-append group xs ys)

pub one_more : (k : ℕ) → in_group 0 (numbers_below (suc k)) ≡ in_group 0 (numbers_below k) ++ (0, k) ∷ []
one_more k = in_group-append 0 (numbers_below k) (k ∷ [])

take_more : (qs : List ℕ) (k : ℕ) → k < length qs → take k qs ++ q_at qs k ∷ [] ≡ take (suc k) qs
take_more [] k lt = absurd (omega arith)
take_more (q ∷ qs) zero lt = grind (arith, common_steps)
take_more (q ∷ qs) (suc k) lt = grind (arith, common_steps, take_more qs k (omega arith))

-- the q of each place, in the order of the places
each_q : (qs : List ℕ) (k : ℕ) → k ≤ length qs → map (q_of_pair qs) (in_group 0 (numbers_below k)) ≡ take k qs
each_q qs zero few = refl
each_q qs (suc k) few =
    ap (map (q_of_pair qs)) (one_more k)
    ∙ map-append (q_of_pair qs) (in_group 0 (numbers_below k)) ((0, k) ∷ [])
    ∙ ap (λ (t : List ℕ). t ++ q_at qs k ∷ []) (each_q qs k (omega arith))
    ∙ take_more qs k (omega arith)

pub in_place : (qs : List ℕ) → numbered qs ≡ in_group 0 (numbers_below (length qs)) → map (q_of_pair qs) (numbered qs) ≡ qs
in_place qs alike = ap (map (q_of_pair qs)) alike ∙ each_q qs (length qs) (omega arith) ∙ take_all (length qs) qs (omega arith)
