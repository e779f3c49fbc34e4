-- The parameters of a key are sorted, each once, and are those that count.
use Rattle.sip_uri.proofs.Common.{◌≡◌, ℕ, Bool, false, List, [], ◌∷◌, fold, refl, ap, ◌∙◌, Ordering, ◌||◌, AllByRecursion, nat_cmp, match_ordering, slice_cmp, Less, Equal, Greater, add_distinct, counted, key_params, arith}
use Rattle.std.specs.List.{list_any}
use Rattle.std.specs.List.Sorted.{IsStrictlySortedBy}
use Rattle.std.specs.Ordering.{ordering_reverse}
use Rattle.std.specs.Cmp.{IsTotalOrder}
use Rattle.std.proofs.lemmas.Cmp.{nat_list_cmp_total}
use Rattle.std.proofs.lemmas.Map.Lookups.{exact_bytes}

abbrev Texts : Type 0
Texts = List (List ℕ)

abbrev order : List ℕ → List ℕ → Ordering
order a b = slice_cmp nat_cmp a b

abbrev law : IsTotalOrder (slice_cmp nat_cmp)
law = nat_list_cmp_total

-- where the new text goes
abbrev placed : Ordering → List ℕ → List ℕ → Texts → Texts
placed o key x keys = match_ordering o (key ∷ x ∷ keys) (x ∷ keys) (x ∷ add_distinct keys key)

all_placed : (P : List ℕ → Type 0) (o : Ordering) (key x : List ℕ) (keys : Texts) → P key → AllByRecursion P (x ∷ keys) → AllByRecursion P (add_distinct keys key) → AllByRecursion P (placed o key x keys)
all_placed P o key x keys h all more = grind arith

all_add : (P : List ℕ → Type 0) (keys : Texts) (key : List ℕ) → AllByRecursion P keys → P key → AllByRecursion P (add_distinct keys key)
all_add P [] key all h = (h, tt)
all_add P (x ∷ keys) key all h = all_placed P (order key x) key x keys h all (all_add P keys key all.1 h)

above : (a b : List ℕ) (keys : Texts) → order a b ≡ Less → AllByRecursion (λ y. order b y ≡ Less) keys → AllByRecursion (λ y. order a y ≡ Less) keys
above a b [] h all = tt
above a b (x ∷ keys) h all = (law.trans a b x h all.0, above a b keys h all.1)

sorted_placed : (o : Ordering) (key x : List ℕ) (keys : Texts) → order key x ≡ o → IsStrictlySortedBy (slice_cmp nat_cmp) (x ∷ keys) → IsStrictlySortedBy (slice_cmp nat_cmp) (add_distinct keys key) → IsStrictlySortedBy (slice_cmp nat_cmp) (placed o key x keys)
unfolding IsStrictlySortedBy
sorted_placed Less key x keys e h more = ((e, above key x keys e h.0), h)
sorted_placed Equal key x keys e h more = h
sorted_placed Greater key x keys e h more = (all_add (λ y. order x y ≡ Less) keys key h.0 (law.antisymm x key ∙ ap ordering_reverse e), more)

pub sorted_add : (keys : Texts) (key : List ℕ) → IsStrictlySortedBy (slice_cmp nat_cmp) keys → IsStrictlySortedBy (slice_cmp nat_cmp) (add_distinct keys key)
unfolding IsStrictlySortedBy
sorted_add [] key h = (tt, tt)
sorted_add (x ∷ keys) key h = sorted_placed (order key x) key x keys refl h (sorted_add keys key h.1)

sorted_fold : (keys more : Texts) → IsStrictlySortedBy (slice_cmp nat_cmp) keys → IsStrictlySortedBy (slice_cmp nat_cmp) (fold add_distinct keys more)
sorted_fold keys [] h = h
sorted_fold keys (x ∷ more) h = sorted_fold (add_distinct keys x) more (sorted_add keys x h)

-- in order of bytes, each once
pub key_params_sorted : (params : Texts) → IsStrictlySortedBy (slice_cmp nat_cmp) (key_params params)
unfolding IsStrictlySortedBy
key_params_sorted params = sorted_fold [] (counted params) tt

or_none : (a : Bool) → a ≡ (a || false)
or_none a = grind arith

any_placed : (p : List ℕ → Bool) (o : Ordering) (key x : List ℕ) (keys : Texts) → order key x ≡ o → list_any p (add_distinct keys key) ≡ (p key || list_any p keys) → list_any p (placed o key x keys) ≡ (p key || (p x || list_any p keys))
any_placed p o key x keys e more = grind (arith, exact_bytes)

any_add : (p : List ℕ → Bool) (keys : Texts) (key : List ℕ) → list_any p (add_distinct keys key) ≡ (p key || list_any p keys)
any_add p [] key = refl
any_add p (x ∷ keys) key = any_placed p (order key x) key x keys refl (any_add p keys key)

any_fold : (p : List ℕ → Bool) (keys more : Texts) → list_any p (fold add_distinct keys more) ≡ (list_any p keys || list_any p more)
any_fold p keys [] = or_none (list_any p keys)
any_fold p keys (x ∷ more) = grind (arith, any_add, any_fold p (add_distinct keys x) more)

-- whatever some parameter that counts is, some of the key's is
pub key_params_members : (params : Texts) (p : List ℕ → Bool) → list_any p (key_params params) ≡ list_any p (counted params)
key_params_members params p = any_fold p [] (counted params)
