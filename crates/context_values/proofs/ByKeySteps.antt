-- The numbers by key, where one more is put in its place, and where a key is looked up.
use Rattle.context_values.proofs.Common.{◌≡◌, eqb-true, ℕ, zero, suc, ◌<◌, ◌≤◌, Bool, true, false, List, [], ◌∷◌, ◌++◌, length, get_or, Option, Some, None, refl, ap, arith, ◌∙◌, sym, inl, inr, nat_eq, cond, slice_get, ◌||◌, ◌==◌, insert, list_any}
use Rattle.context_values.proofs.Common.{pointwise, Offer, Challenge, RowExtras, with_row_extras, key_at, IsByKey, is_before, Parted, found_at, common_steps}
use Rattle.std.specs.Prelude.{slice_index_or, is_ok, IsOk, Result}
use Rattle.std.specs.List.Sorted.{IsPartitionedBy, IsPartitionPoint}
use Rattle.std.specs.Cmp.Lexicographic.{slice_cmp, lists_ties}
use Rattle.std.specs.declared.cmp.Ordering.{Ordering}
use Rattle.std.specs.declared.cmp.Ordering.TheVariants.{Less}
use Rattle.std.specs.Ordering.{nat_cmp, is_gt, is_lt, is_eq, eq_by_cmp, ordering_reverse}
use Rattle.std.proofs.lemmas.Cmp.{nat_list_cmp_total, alike_right}
use Rattle.std.proofs.Math.Bool.{or-true}
use Rattle.context_values.proofs.laws.RowExtras.{length-with_row_extras}
use Rattle.std.proofs.Math.ListN.{set}
use Rattle.context_values.specs.inner.ByKey.{UpTo, AllFrom, Rising, AllBelow, Has}

-- ---- the order of keys

abbrev cmp : List ℕ → List ℕ → Ordering
cmp = slice_cmp nat_cmp

lt_then_upto : (o : Ordering) → is_lt o ≡ true → is_gt o ≡ false
lt_then_upto o e = grind arith

not_lt_back : (o : Ordering) → is_lt o ≡ false → is_gt (ordering_reverse o) ≡ false
not_lt_back o e = grind arith

-- what is not before a key does not come before it
from_here : (k l : List ℕ) → is_lt (cmp k l) ≡ false → UpTo l k
from_here k l e = ap is_gt (nat_list_cmp_total.antisymm l k) ∙ not_lt_back (cmp k l) e

pub before_too : (k l x : List ℕ) → UpTo k l → is_lt (cmp l x) ≡ true → is_lt (cmp k x) ≡ true
before_too k l x up e = grind (arith, common_steps, nat_list_cmp_total)

after_too : (x k l : List ℕ) → cmp x k ≡ Less → UpTo k l → cmp x l ≡ Less
after_too x k l less up = grind (arith, common_steps, nat_list_cmp_total, alike_right)

neq_lt : (i j : ℕ) → i ≤ j → (i == j) ≡ false → i < j
neq_lt i j le e = grind arith

-- ---- the keys before one, and the others

all_from_at : (extras : List RowExtras) (k : List ℕ) (ns : List ℕ) (j d : ℕ) → AllFrom extras k ns → j < length ns → UpTo k (key_at extras (get_or ns j d))
all_from_at extras k [] j d all lt = absurd (omega arith)
all_from_at extras k (n ∷ ns) zero d all lt = all.0
all_from_at extras k (n ∷ ns) (suc j) d all lt = all_from_at extras k ns j d all.1 (omega arith)

rising_at : (extras : List RowExtras) (ns : List ℕ) (i j d : ℕ) → Rising extras ns → i < j → j < length ns
    → UpTo (key_at extras (get_or ns i d)) (key_at extras (get_or ns j d))
rising_at extras [] i j d up lt within = absurd (omega arith)
rising_at extras (n ∷ ns) zero zero d up lt within = absurd (omega arith)
rising_at extras (n ∷ ns) zero (suc j) d up lt within = all_from_at extras (key_at extras n) ns j d up.0 (omega arith)
rising_at extras (n ∷ ns) (suc i) zero d up lt within = absurd (omega arith)
rising_at extras (n ∷ ns) (suc i) (suc j) d up lt within = rising_at extras ns i j d up.1 (omega arith) (omega arith)

pub partitioned : (extras : List RowExtras) (ns x : List ℕ) → Rising extras ns → IsPartitionedBy (is_before extras x) ns
partitioned extras ns x up i j d le within e = go (i == j) refl
  where
    go : (b : Bool) → (i == j) ≡ b → is_before extras x (slice_index_or ns i d) ≡ true
    go true is = let same : i ≡ j = eqb-true i j is in ap (λ (k : ℕ). is_before extras x (slice_index_or ns k d)) same ∙ e
    go false is = before_too (key_at extras (get_or ns i d)) (key_at extras (get_or ns j d)) x (rising_at extras ns i j d up (neq_lt i j le is) within) e

pub parted : (extras : List RowExtras) (ns x : List ℕ) (p : ℕ)
    → IsPartitionPoint (λ n. is_before extras x n ≡ true) (λ n. is_before extras x n ≡ false) ns p → Parted extras x ns p
parted extras [] x p point = tt
parted extras (n ∷ ns) x zero point = (
  point.1 0 n (omega arith) (omega arith),
  parted extras ns x zero ((λ k d lo hi. absurd (omega arith)), λ k d lo hi. point.1 (suc k) d (omega arith) (omega arith)),
)
parted extras (n ∷ ns) x (suc p) point = (
  point.0 0 n (omega arith) (omega arith),
  parted extras ns x p ((λ k d lo hi. point.0 (suc k) d (omega arith) (omega arith)), λ k d lo hi. point.1 (suc k) d (omega arith) (omega arith)),
)

-- ---- one more number in its place

all_from_insert : (extras : List RowExtras) (k : List ℕ) (ns : List ℕ) (p m : ℕ) → AllFrom extras k ns → UpTo k (key_at extras m)
    → AllFrom extras k (insert ns p m)
all_from_insert extras k [] zero m all up = (up, tt)
all_from_insert extras k [] (suc p) m all up = (up, tt)
all_from_insert extras k (n ∷ ns) zero m all up = (up, all)
all_from_insert extras k (n ∷ ns) (suc p) m all up = (all.0, all_from_insert extras k ns p m all.1 up)

all_from_here : (extras : List RowExtras) (x ns : List ℕ) → Parted extras x ns zero → AllFrom extras x ns
all_from_here extras x [] part = tt
all_from_here extras x (n ∷ ns) part = (from_here (key_at extras n) x part.0, all_from_here extras x ns part.1)

rising_insert : (extras : List RowExtras) (ns : List ℕ) (p m : ℕ) → Rising extras ns → Parted extras (key_at extras m) ns p
    → Rising extras (insert ns p m)
rising_insert extras [] zero m up part = (tt, tt)
rising_insert extras [] (suc p) m up part = (tt, tt)
rising_insert extras (n ∷ ns) zero m up part = (all_from_here extras (key_at extras m) (n ∷ ns) part, up)
rising_insert extras (n ∷ ns) (suc p) m up part = grind (arith, common_steps, all_from_insert, lt_then_upto, rising_insert extras ns p m up.1 part.1)

below_insert : (count : ℕ) (ns : List ℕ) (p : ℕ) → AllBelow count ns → AllBelow (suc count) (insert ns p count)
below_insert count [] zero all = (omega arith, tt)
below_insert count [] (suc p) all = (omega arith, tt)
below_insert count (n ∷ ns) zero all = (omega arith, more (n ∷ ns) all)
  where
    more : (ns : List ℕ) → AllBelow count ns → AllBelow (suc count) ns
    more [] all = tt
    more (n ∷ ns) all = let lt : n < count = all.0 in (omega arith, more ns all.1)
below_insert count (n ∷ ns) (suc p) all = let lt : n < count = all.0 in (omega arith, below_insert count ns p all.1)

has_itself : (ns : List ℕ) (p m : ℕ) → Has (insert ns p m) m
has_itself [] zero m = inl refl
has_itself [] (suc p) m = inl refl
has_itself (n ∷ ns) zero m = inl refl
has_itself (n ∷ ns) (suc p) m = inr (has_itself ns p m)

has_still : (ns : List ℕ) (p m k : ℕ) → Has ns k → Has (insert ns p m) k
has_still [] p m k has = absurd has
has_still (n ∷ ns) zero m k has = inr has
has_still (n ∷ ns) (suc p) m k (inl e) = inl e
has_still (n ∷ ns) (suc p) m k (inr has) = inr (has_still ns p m k has)

pub by_key_more : (extras : List RowExtras) (count : ℕ) (ns : List ℕ) (p : ℕ) → IsByKey extras count ns → Parted extras (key_at extras count) ns p
    → IsByKey extras (suc count) (insert ns p count)
by_key_more extras count ns p is part = grind (arith, common_steps, below_insert, rising_insert, eqb-true, has_itself, has_still, neq_lt)

pub in_ok : {T E X : Type 0} (r : Result T E) (a b : X) → IsOk r → cond (is_ok r) a b ≡ a
in_ok r a b ok = grind arith

-- ---- more rows behind

key_before : (extras more : List RowExtras) (n : ℕ) → n < length extras → key_at (extras ++ more) n ≡ key_at extras n
key_before [] more n lt = absurd (omega arith)
key_before (b ∷ extras) more zero lt = refl
key_before (b ∷ extras) more (suc n) lt = key_before extras more n (omega arith)

rising_same : (old new : List RowExtras) (count : ℕ) (ns : List ℕ) → ((n : ℕ) → n < count → key_at new n ≡ key_at old n) → AllBelow count ns → Rising old ns
    → Rising new ns
rising_same old new count [] same all up = tt
rising_same old new count (n ∷ ns) same all up = (from ns all.1 up.0, rising_same old new count ns same all.1 up.1)
  where
    from : (ms : List ℕ) → AllBelow count ms → AllFrom old (key_at old n) ms → AllFrom new (key_at new n) ms
    from [] below up = tt
    from (m ∷ ms) below up = (ap is_gt (λ i. cmp (same n all.0 i) (same m below.0 i)) ∙ up.0, from ms below.1 up.1)

by_key_behind : (extras more : List RowExtras) (ns : List ℕ) → IsByKey extras (length extras) ns → IsByKey (extras ++ more) (length extras) ns
by_key_behind extras more ns is = grind (arith, common_steps, rising_same, key_before)

-- the same, as the table's functions tell of it
pub by_key_grown : (old more grown : List RowExtras) (ns items : List ℕ) (count : ℕ) → IsByKey old (length old) ns → grown ≡ old ++ more → items ≡ ns
    → count ≡ length old → IsByKey grown count items
by_key_grown old more grown ns items count is all kept size = grind (arith, common_steps, by_key_behind)

-- ---- what is stored changes no key

key_stored : (extras : List RowExtras) (m : ℕ) (left : List Offer) (challenges : List Challenge) (n : ℕ)
    → key_at (with_row_extras extras m left challenges) n ≡ key_at extras n
key_stored [] m left challenges n = refl
key_stored (b ∷ extras) zero left challenges zero = refl
key_stored (b ∷ extras) zero left challenges (suc n) = refl
key_stored (b ∷ extras) (suc m) left challenges zero = refl
key_stored (b ∷ extras) (suc m) left challenges (suc n) = key_stored extras m left challenges n

pub by_key_stored : (extras : List RowExtras) (ns : List ℕ) (m : ℕ) (left : List Offer) (challenges : List Challenge) → IsByKey extras (length extras) ns
    → IsByKey (with_row_extras extras m left challenges) (length (with_row_extras extras m left challenges)) ns
by_key_stored extras ns m left challenges is = grind (arith, common_steps, length-with_row_extras, rising_same, key_stored)

-- a write of the extras of one row
pub set_stored : (extras : List RowExtras) (n : ℕ) (b new : RowExtras) (left : List Offer) (challenges : List Challenge) → n < length extras
    → new ≡ record (get_or extras n b) { left = left; challenges = challenges } → set extras n new ≡ with_row_extras extras n left challenges
set_stored [] n b new left challenges lt e = absurd (omega arith)
set_stored (x ∷ extras) zero b new left challenges lt e = ap (λ r. r ∷ extras) e
set_stored (x ∷ extras) (suc n) b new left challenges lt e = ap (λ rest. x ∷ rest) (set_stored extras n b new left challenges (omega arith) e)

-- ---- a key looked up

abbrev is_key : List RowExtras → List ℕ → ℕ → Bool
is_key extras x n = pointwise nat_eq x (key_at extras n)

nat_tied : (x y : ℕ) → nat_eq x y ≡ eq_by_cmp nat_cmp x y
nat_tied x y = grind arith

same_key : (k l : List ℕ) → pointwise nat_eq k l ≡ is_eq (cmp k l)
same_key k l = lists_ties nat_cmp nat_tied k l

lt_not_eq : (k x : List ℕ) → is_lt (cmp k x) ≡ true → pointwise nat_eq x k ≡ false
lt_not_eq k x e = grind (arith, common_steps, same_key, nat_list_cmp_total)

not_lt_not_eq : (k x : List ℕ) → is_lt (cmp k x) ≡ false → pointwise nat_eq x k ≡ false → cmp x k ≡ Less
not_lt_not_eq k x e d = grind (arith, common_steps, nat_list_cmp_total, same_key)

less_not_eq : (x k : List ℕ) → cmp x k ≡ Less → pointwise nat_eq x k ≡ false
less_not_eq x k e = same_key x k ∙ ap is_eq e

-- the key is not that of the row at this place, if there is one
abbrev NotAt : List RowExtras → List ℕ → Option ℕ → Type 0
NotAt extras x None = Unit {0}
NotAt extras x (Some n) = is_key extras x n ≡ false

none_behind : (extras : List RowExtras) (x : List ℕ) (k : List ℕ) (ns : List ℕ) (m : ℕ) → cmp x k ≡ Less → AllFrom extras k ns → Has ns m → is_key extras x m ≡ false
none_behind extras x k [] m less all has = absurd has
none_behind extras x k (n ∷ ns) m less all (inl e) = grind (arith, common_steps, less_not_eq, after_too)
none_behind extras x k (n ∷ ns) m less all (inr has) = none_behind extras x k ns m less all.1 has

none_there : (extras : List RowExtras) (x ns : List ℕ) (p m : ℕ) → Rising extras ns → Parted extras x ns p → NotAt extras x (slice_get ns p)
    → Has ns m → is_key extras x m ≡ false
none_there extras x [] p m up part not has = absurd has
none_there extras x (n ∷ ns) zero m up part not (inl e) = ap (λ (j : ℕ). is_key extras x j) (sym e) ∙ not
none_there extras x (n ∷ ns) zero m up part not (inr has) = grind (arith, common_steps, none_behind, not_lt_not_eq)
none_there extras x (n ∷ ns) (suc p) m up part not (inl e) = ap (λ (j : ℕ). is_key extras x j) (sym e) ∙ lt_not_eq (key_at extras n) x part.0
none_there extras x (n ∷ ns) (suc p) m up part not (inr has) = none_there extras x ns p m up.1 part.1 not has

none_any : (extras : List RowExtras) (x : List ℕ) → ((n : ℕ) → n < length extras → is_key extras x n ≡ false) → list_any (λ b. pointwise nat_eq x b.key) extras ≡ false
none_any [] x none = refl
none_any (b ∷ extras) x none =
    (λ i. none 0 (omega arith) i || none_any extras x (λ n lt. none (suc n) (omega arith)) i)

some_any : (extras : List RowExtras) (x : List ℕ) (n : ℕ) → n < length extras → is_key extras x n ≡ true → list_any (λ b. pointwise nat_eq x b.key) extras ≡ true
some_any [] x n lt e = absurd (omega arith)
some_any (b ∷ extras) x zero lt e = ap (λ (c : Bool). c || list_any (λ b. pointwise nat_eq x b.key) extras) e
some_any (b ∷ extras) x (suc n) lt e =
    ap (λ (c : Bool). pointwise nat_eq x b.key || c) (some_any extras x n (omega arith) e) ∙ or-true (pointwise nat_eq x b.key)

below_there : (count : ℕ) (ns : List ℕ) (p n : ℕ) → AllBelow count ns → slice_get ns p ≡ Some n → n < count
below_there count [] p n all is = absurd cc
below_there count (m ∷ ns) zero n all is = let same : m ≡ n = cc in let lt : m < count = all.0 in omega arith
below_there count (m ∷ ns) (suc p) n all is = below_there count ns p n all.1 is

pub found : (extras : List RowExtras) (ns x : List ℕ) (p : ℕ) → IsByKey extras (length extras) ns → Parted extras x ns p
    → found_at extras x (slice_get ns p) ≡ list_any (λ b. pointwise nat_eq x b.key) extras
found extras ns x p is part = grind (arith, common_steps, none_any, none_there, some_any, below_there)
