-- Entries are added to the heap and taken off it, and each deadline stays listed.
use Rattle.std.proofs.Common.{◌≡◌, ◌≢◌, ◌≤◌, ◌⊎◌, inl, inr, subst, Ordering, rules, ℕ, zero, suc, Some, List, [], ◌∷◌, length, get_or, sym, refl, ap, ◌∙◌, ⊎_elim, false, arith}
use mathlib.Core.Logic.{dite}
use native.Mathlib.Decide.{ℕ_discrete}
use Rattle.std.specs.List.{Contains}
use Rattle.std.specs.List.Sorted.{IsPermutation}
use Rattle.std.specs.BinaryHeap.{IsUpperBound}
use Rattle.std.specs.Ordering.{nat_cmp, is_lt, ordering_then}
use Rattle.std.proofs.lemmas.List.Sorted.{Contains-permutation, length_permutation}
use Rattle.std.proofs.lemmas.Option.{none-some, same_Some}
use Rattle.call_table.specs.Deadlines.{deadline_of, AreSame, IsSet, IsWithout, IsEarliest, Entry, entry_order, AreListed}

-- an element of a list is its first or one of the others
contains_cons : {X : Type 0} (y : X) (ys : List X) (x : X) → Contains (y ∷ ys) x → (y ≡ x) ⊎ Contains ys x
contains_cons y ys x (zero, there, is) = inl is
contains_cons y ys x (suc k, there, is) = inr (k, omega arith, is)

contains_later : {X : Type 0} (y : X) (ys : List X) (x : X) → Contains ys x → Contains (y ∷ ys) x
contains_later y ys x (k, there, is) = (suc k, omega arith, is)

contains_first : {X : Type 0} (y : X) (ys : List X) → Contains (y ∷ ys) y
contains_first y ys = (0, omega arith, refl)

-- what was pushed is listed
pub listed_pushed : (entries new_entries : List Entry) (entry : Entry) (old new : List (ℕ × ℕ)) (number due : ℕ)
    → IsPermutation (entry ∷ entries) new_entries → entry.0 ≡ (due, number) → IsSet old number due new
    → AreListed entries old → AreListed new_entries new
listed_pushed entries new_entries entry old new number due permutation is set listed n other at = dite (ℕ_discrete n number)
    (λ (same : n ≡ number).
    let due_is : due ≡ other = same_Some due other (sym set.0 ∙ ap (λ m. deadline_of new m) (sym same) ∙ at) in
    (entry, Contains-permutation _ _ entry permutation (contains_first entry entries), is ∙ (λ i. (due_is i, sym same i))))
    (λ (apart : n ≢ number).
    let was = listed n other (sym (set.1 n apart) ∙ at) in
    (was.0, Contains-permutation _ _ was.0 permutation (contains_later entry entries was.0 was.1), was.2))

-- an entry more may stand there
pub listed_more : (entries new_entries : List Entry) (entry : Entry) (old new : List (ℕ × ℕ))
    → IsPermutation (entry ∷ entries) new_entries → AreSame old new → AreListed entries old → AreListed new_entries new
listed_more entries new_entries entry old new permutation same listed n other at =
    let was = listed n other (sym (same n) ∙ at) in
    (was.0, Contains-permutation _ _ was.0 permutation (contains_later entry entries was.0 was.1), was.2)

-- an entry that counts no longer may go
pub listed_popped_stale : (entries rest : List Entry) (entry : Entry) (deadlines : List (ℕ × ℕ)) (number due : ℕ)
    → IsPermutation entries (entry ∷ rest) → entry.0 ≡ (due, number) → deadline_of deadlines number ≢ Some due
    → AreListed entries deadlines → AreListed rest deadlines
listed_popped_stale entries rest entry deadlines number due permutation is stale listed n other at =
    let old = listed n other at in ⊎_elim
    (λ (same : entry ≡ old.0).
    let pair : (due, number) ≡ (other, n) = sym is ∙ ap (λ e. e.0) same ∙ old.2 in
    absurd (stale (ap (λ m. deadline_of deadlines m) (ap (λ p. p.1) pair) ∙ at ∙ ap Some (sym (ap (λ p. p.0) pair)))))
    (λ there. (old.0, there, old.2))
    (contains_cons entry rest old.0 (Contains-permutation _ _ old.0 permutation old.1))

none_below : (a b : ℕ) (o : Ordering) → is_lt (ordering_then (nat_cmp b a) o) ≡ false → a ≤ b
none_below a b o not_less = search rules

-- where an entry is the greatest, no deadline is before its own
pub greatest_is_earliest : (entries : List Entry) (entry : Entry) (deadlines : List (ℕ × ℕ)) → IsUpperBound entry_order entry entries
    → AreListed entries deadlines → IsEarliest deadlines entry.0.0
greatest_is_earliest entries entry deadlines bound listed n due at = let old = listed n due at in
    subst (λ (p : ℕ × ℕ). entry.0.0 ≤ p.0) old.2 (bounded entries old.0 old.1 bound)
  where
    bounded : (items : List Entry) (x : Entry) → Contains items x → IsUpperBound entry_order entry items → entry.0.0 ≤ x.0.0
    bounded [] x (k, there, is) bound = absurd (omega arith)
    bounded (y ∷ ys) x (zero, there, is) bound = subst (λ (e : Entry). entry.0.0 ≤ e.0.0) is (none_below entry.0.0 y.0.0 (nat_cmp y.0.1 entry.0.1) bound.0)
    bounded (y ∷ ys) x (suc k, there, is) bound = bounded ys x (k, omega arith, is) bound.1

-- what is popped is what was at the top
pub same_top : (entries rest : List Entry) (popped peeked : Entry) → IsPermutation entries (popped ∷ rest)
    → popped ≡ get_or entries 0 popped → peeked ≡ get_or entries 0 peeked → popped ≡ peeked
same_top [] rest popped peeked permutation p q = absurd (nonempty rest popped (length_permutation [] (popped ∷ rest) permutation))
  where
    nonempty : (rest : List Entry) (popped : Entry) → length (popped ∷ rest) ≡ 0 → ⊥
    nonempty rest popped e = omega arith
same_top (e ∷ es) rest popped peeked permutation p q = p ∙ sym q
