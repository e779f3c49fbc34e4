-- The test for a list of preferred statuses decides what such a list is.
use Rattle.fork_rank.proofs.TextCommon.{◌≡◌, ℕ, suc, ◌+◌, ◌<◌, ◌≤◌, Bool, true, false, cond, List, [], ◌∷◌, Option, Some, None, refl, sym, ap, subst, arith, ◌&&◌, nat_lt, IfSome, All, list_all, false_from_ne_true, IsPreferredList, rises}
use Rattle.fork_rank.proofs.TextCommon.{is_preferred_list, preferred_if, common_steps}
use Rattle.std.proofs.Common.{zero, get_or}
use Rattle.std.specs.Prelude.{◌↔◌, nat_le, IsSome}
use Rattle.std.specs.List.Sorted.{IsStrictlyIncreasing}
use Rattle.std.proofs.lemmas.Bool.{ltb-true, lt-ltb, and_parts, and_from}
use Rattle.std.proofs.lemmas.List.Sums.{list_all-from_AllPass}
use Rattle.fork_rank.specs.PreferredText.{rises_from}

abbrev is_client_error : ℕ → Bool
is_client_error status = nat_le 400 status && nat_lt status 500

client_errors : (xs : List ℕ) → list_all is_client_error xs ≡ true → All (λ status. (400 ≤ status) × (status < 500)) xs
client_errors xs e k d lt = grind (arith, common_steps)

client_errors_pass : (xs : List ℕ) → All (λ status. (400 ≤ status) × (status < 500)) xs → list_all is_client_error xs ≡ true
client_errors_pass xs all = grind (arith, list_all-from_AllPass)

rising : (n : ℕ) (xs : List ℕ) → rises_from n xs ≡ true → IsStrictlyIncreasing (n ∷ xs)
rising n [] e k lt = absurd (omega arith)
rising n (m ∷ ms) e zero lt = ltb-true n m (and_parts (nat_lt n m) (rises_from m ms) e).0
rising n (m ∷ ms) e (suc k) lt =
    let rest : rises_from m ms ≡ true = (and_parts (nat_lt n m) (rises_from m ms) e).1 in
    let same : suc k + 1 ≡ suc (k + 1) = omega arith in
    let P : ℕ → Type 0 = λ i. get_or (m ∷ ms) k 0 < get_or (n ∷ m ∷ ms) i 0 in
    subst P (sym same) (rising m ms rest k (omega arith))

rising_passes : (n : ℕ) (xs : List ℕ) → IsStrictlyIncreasing (n ∷ xs) → rises_from n xs ≡ true
rising_passes n [] h = refl
rising_passes n (m ∷ ms) h =
    and_from _ _ (lt-ltb n m (h 0 (omega arith)))
    (rising_passes m ms (λ k lt.
    let same : suc k + 1 ≡ suc (k + 1) = omega arith in
    let P : ℕ → Type 0 = λ i. get_or (m ∷ ms) k 0 < get_or (n ∷ m ∷ ms) i 0 in
    subst P same (h (suc k) (omega arith))))

rises_is : (xs : List ℕ) → rises xs ≡ true → IsStrictlyIncreasing xs
rises_is xs e = grind (arith, rising)

is_rising : (xs : List ℕ) → IsStrictlyIncreasing xs → rises xs ≡ true
is_rising [] h = refl
is_rising (n ∷ ns) h = rising_passes n ns h

pub preferred_passes : (xs : List ℕ) → IsPreferredList xs → is_preferred_list xs ≡ true
preferred_passes xs h = grind (arith, client_errors_pass, is_rising)

pub preferred_is : (xs : List ℕ) → is_preferred_list xs ≡ true → IsPreferredList xs
preferred_is xs e = grind (arith, client_errors, rising, rises_is)

none_is : IsSome {T = List ℕ} None → ⊥
none_is e = absurd cc

-- what is made of a list is the list, where it may be preferred
pub preferred_if_is : (r : Option (List ℕ)) (xs : List ℕ) → (IsSome r ↔ IsPreferredList xs) → IfSome r (λ p. p ≡ xs) → r ≡ preferred_if xs
preferred_if_is None xs valid value =
    let e : is_preferred_list xs ≡ false = false_from_ne_true _ (λ t. none_is (valid.1 (preferred_is xs t))) in
    sym (ap (λ t. cond t (Some xs) None) e)
preferred_if_is (Some p) xs valid value = grind (arith, preferred_passes)
