-- Where the earliest of a list of moments stands, when a moment is added or changed.
use Rattle.fork_call.proofs.Common.{◌≡◌, ◌∙◌, ◌++◌, ℕ, zero, suc, inl, inr, ap, refl, sym, subst, arith, true, false, ◌<◌, ◌≤◌, List, [], ◌∷◌, length, take, ◌+◌, Option, Some, None, replicate, slice_get, slice_set, cases_lt, fold, min}
use Rattle.fork_call.proofs.Common.{list_any, earlier, is_due, found, comes_before, least_of, moment_at}
use Rattle.std.proofs.lemmas.Bool.{ltb-true, ltb-false}
use Rattle.std.specs.Prelude.{get_or}
use Rattle.fork_call.proofs.Idle.{both_later}

swap_earlier : (a b : Option ℕ) → earlier a b ≡ earlier b a
swap_earlier None None = refl
swap_earlier None (Some b) = refl
swap_earlier (Some a) None = refl
swap_earlier (Some a) (Some b) = ap (λ (x : ℕ). Some x) (let e : min a b ≡ min b a = omega arith in e)

join_earlier : (a b c : Option ℕ) → earlier (earlier a b) c ≡ earlier a (earlier b c)
join_earlier None b c = refl
join_earlier (Some a) None c = refl
join_earlier (Some a) (Some b) None = refl
join_earlier (Some a) (Some b) (Some c) = ap (λ (x : ℕ). Some x) (let e : min (min a b) c ≡ min a (min b c) = omega arith in e)

from_earlier : (moments : List (Option ℕ)) (first : Option ℕ) → fold earlier first moments ≡ earlier first (least_of moments)
from_earlier [] first = swap_earlier None first
from_earlier (m ∷ moments) first =
    from_earlier moments (earlier first m) ∙ join_earlier first m (least_of moments) ∙ ap (earlier first) (sym (from_earlier moments m))

-- the least of the others: so the least is with this moment in the place of that
record IsRest (moments : List (Option ℕ)) (n : ℕ) (before : Option ℕ) (rest : Option ℕ) : Type 0 where
  with_it : least_of moments ≡ earlier before rest
  with_other : (m : Option ℕ) → least_of (slice_set moments n m) ≡ earlier m rest

rest_of : (moments : List (Option ℕ)) (n : ℕ) (before : Option ℕ) → slice_get moments n ≡ Some before → (rest : Option ℕ) × IsRest moments n before rest
rest_of [] n before h = absurd cc
rest_of (x ∷ moments) zero before h =
    let same : x ≡ before = cc in (
      least_of moments,
      record {
        with_it = from_earlier moments x ∙ ap (λ (y : Option ℕ). earlier y (least_of moments)) same;
        with_other = λ m. from_earlier moments m;
      },
    )
rest_of (x ∷ moments) (suc n) before h =
    let inner = rest_of moments n before h in
    let is = inner.1 in
    let around : (m : Option ℕ) → earlier x (earlier m inner.0) ≡ earlier m (earlier x inner.0) =
    λ m. sym (join_earlier x m inner.0) ∙ ap (λ (y : Option ℕ). earlier y inner.0) (swap_earlier x m) ∙ join_earlier m x inner.0 in (
      earlier x inner.0,
      record {
        with_it = from_earlier moments x ∙ ap (earlier x) is.with_it ∙ around before;
        with_other = λ m. from_earlier (slice_set moments n m) x ∙ ap (earlier x) (is.with_other m) ∙ around m;
      },
    )

-- a moment that is not the least leaves the least with the others
not_least : (before rest : Option ℕ) → (before ≡ earlier before rest → ⊥) → rest ≡ earlier before rest
not_least None rest h = refl
not_least (Some a) None h = absurd (h refl)
not_least (Some a) (Some b) h = ap (λ (x : ℕ). Some x) (elim (cases_lt a b) [
  | inl lt ↦ absurd (h (ap (λ (x : ℕ). Some x) (let e : a ≡ min a b = omega arith in e)))
  | inr le ↦ let e : b ≡ min a b = omega arith in e
])

least_set : (moments : List (Option ℕ)) (n : ℕ) (before m : Option ℕ) → slice_get moments n ≡ Some before → (before ≡ least_of moments → ⊥)
    → earlier (least_of moments) m ≡ least_of (slice_set moments n m)
least_set moments n before m there apart =
    let found_rest = rest_of moments n before there in
    let is = found_rest.1 in
    let rest : found_rest.0 ≡ earlier before found_rest.0 = not_least before found_rest.0 (λ e. apart (e ∙ sym is.with_it)) in
    ap (λ (x : Option ℕ). earlier x m) (is.with_it ∙ sym rest) ∙ swap_earlier found_rest.0 m ∙ sym (is.with_other m)

least_push : (moments : List (Option ℕ)) (m : Option ℕ) → least_of (moments ++ m ∷ []) ≡ earlier (least_of moments) m
least_push moments m = more moments None
  where
    more : (ms : List (Option ℕ)) (first : Option ℕ) → fold earlier first (ms ++ m ∷ []) ≡ earlier (fold earlier first ms) m
    more [] first = refl
    more (x ∷ ms) first = more ms (earlier first x)

-- rows without a moment leave the least
least_padded : (moments : List (Option ℕ)) (count : ℕ) → least_of (moments ++ replicate count None) ≡ least_of moments
least_padded moments count = more moments count None
  where
    none : (count : ℕ) (first : Option ℕ) → fold earlier first (replicate count None) ≡ first
    none zero first = refl
    none (suc count) first = none count (earlier first None) ∙ swap_earlier first None

    more : (ms : List (Option ℕ)) (count : ℕ) (first : Option ℕ) → fold earlier first (ms ++ replicate count None) ≡ fold earlier first ms
    more [] count first = none count first
    more (x ∷ ms) count first = more ms count (earlier first x)

-- ---- which comes before

is_earlier : (m other : Option ℕ) → comes_before m other ≡ true → earlier other m ≡ m
is_earlier None other e = absurd cc
is_earlier (Some a) None e = refl
is_earlier (Some a) (Some b) e =
    let lt : a < b = ltb-true a b e in
    ap (λ (x : ℕ). Some x) (let same : min b a ≡ a = omega arith in same)

pub is_no_earlier : (m other : Option ℕ) → comes_before m other ≡ false → earlier other m ≡ other
is_no_earlier None None e = refl
is_no_earlier None (Some b) e = refl
is_no_earlier (Some a) None e = absurd cc
is_no_earlier (Some a) (Some b) e =
    let le : b ≤ a = ltb-false a b e in
    ap (λ (x : ℕ). Some x) (let same : min b a ≡ b = omega arith in same)

none_before_none : (m : Option ℕ) → comes_before m None ≡ false → m ≡ None
none_before_none None e = refl
none_before_none (Some a) e = absurd cc

-- ---- one more at the end

stands_last : (moments : List (Option ℕ)) (m : Option ℕ) → moment_at (moments ++ m ∷ []) (length moments) ≡ m
stands_last [] None = refl
stands_last [] (Some a) = refl
stands_last (x ∷ moments) m = stands_last moments m

still_stands : (moments : List (Option ℕ)) (m : Option ℕ) (k : ℕ) → comes_before m (moment_at moments k) ≡ false
    → moment_at (moments ++ m ∷ []) k ≡ moment_at moments k
still_stands [] m zero e = rw (none_before_none m e) refl
still_stands [] m (suc k) e = refl
still_stands (x ∷ moments) m zero e = refl
still_stands (x ∷ moments) m (suc k) e = still_stands moments m k e

pub last_is_first : (moments : List (Option ℕ)) (m : Option ℕ) (place : ℕ) → place ≡ length moments → comes_before m (least_of moments) ≡ true
    → moment_at (moments ++ m ∷ []) place ≡ least_of (moments ++ m ∷ [])
last_is_first moments m place e before =
    ap (moment_at (moments ++ m ∷ [])) e ∙ stands_last moments m ∙ sym (least_push moments m ∙ is_earlier m (least_of moments) before)

pub first_as_before : (moments : List (Option ℕ)) (m : Option ℕ) (first : ℕ) → moment_at moments first ≡ least_of moments
    → comes_before m (least_of moments) ≡ false → moment_at (moments ++ m ∷ []) first ≡ least_of (moments ++ m ∷ [])
first_as_before moments m first is before =
    still_stands moments m first (ap (comes_before m) is ∙ before) ∙ is
    ∙ sym (least_push moments m ∙ is_no_earlier m (least_of moments) before)

-- rows without a moment
pub first_padded : (moments : List (Option ℕ)) (count first : ℕ) → moment_at moments first ≡ least_of moments
    → moment_at (moments ++ replicate count None) first ≡ least_of (moments ++ replicate count None)
first_padded moments count first is = stands moments count first ∙ is ∙ sym (least_padded moments count)
  where
    none : (count k : ℕ) → moment_at (replicate count None) k ≡ None
    none zero k = refl
    none (suc count) zero = refl
    none (suc count) (suc k) = none count k

    stands : (ms : List (Option ℕ)) (count k : ℕ) → moment_at (ms ++ replicate count None) k ≡ moment_at ms k
    stands [] count k = none count k
    stands (x ∷ ms) count zero = refl
    stands (x ∷ ms) count (suc k) = stands ms count k

-- ---- one that is set

stands_there : (moments : List (Option ℕ)) (n : ℕ) (before m : Option ℕ) → slice_get moments n ≡ Some before → moment_at (slice_set moments n m) n ≡ m
stands_there [] n before m e = absurd cc
stands_there (x ∷ moments) zero before None e = refl
stands_there (x ∷ moments) zero before (Some a) e = refl
stands_there (x ∷ moments) (suc n) before m e = stands_there moments n before m e

others_stand : (moments : List (Option ℕ)) (n k : ℕ) (m : Option ℕ) → (n ≡ k → ⊥) → moment_at (slice_set moments n m) k ≡ moment_at moments k
others_stand [] n k m apart = refl
others_stand (x ∷ moments) zero zero m apart = absurd (apart refl)
others_stand (x ∷ moments) zero (suc k) m apart = refl
others_stand (x ∷ moments) (suc n) zero m apart = refl
others_stand (x ∷ moments) (suc n) (suc k) m apart = others_stand moments n k m (λ e. apart (ap suc e))

-- what no moment comes before, of all or of the rest
before_rest : (m before rest : Option ℕ) → earlier m (earlier before rest) ≡ m → earlier m rest ≡ m
before_rest None None rest e = e
before_rest None (Some b) None e = absurd cc
before_rest None (Some b) (Some r) e = absurd cc
before_rest (Some a) before None e = refl
before_rest (Some a) None (Some r) e = e
before_rest (Some a) (Some b) (Some r) e =
    let le : min a (min b r) ≡ a = cc in
    ap (λ (x : ℕ). Some x) (let same : min a r ≡ a = omega arith in same)

pub set_is_first : (moments : List (Option ℕ)) (n : ℕ) (before m : Option ℕ) → slice_get moments n ≡ Some before
    → earlier m (least_of moments) ≡ m → moment_at (slice_set moments n m) n ≡ least_of (slice_set moments n m)
set_is_first moments n before m there first =
    let found_rest = rest_of moments n before there in
    let is = found_rest.1 in
    stands_there moments n before m there
    ∙ sym (is.with_other m ∙ before_rest m before found_rest.0 (ap (earlier m) (sym is.with_it) ∙ first))

there_is : (moments : List (Option ℕ)) (n : ℕ) (before : Option ℕ) → slice_get moments n ≡ Some before → moment_at moments n ≡ before
there_is moments n None e = ap found e
there_is moments n (Some a) e = ap found e

pub first_stays : (moments : List (Option ℕ)) (n first : ℕ) (before m : Option ℕ) → slice_get moments n ≡ Some before
    → moment_at moments first ≡ least_of moments → (before ≡ least_of moments → ⊥) → earlier (least_of moments) m ≡ least_of moments
    → moment_at (slice_set moments n m) first ≡ least_of (slice_set moments n m)
first_stays moments n first before m there is apart late =
    let other : n ≡ first → ⊥ = λ e. apart (sym (there_is moments n before there) ∙ ap (moment_at moments) e ∙ is) in
    others_stand moments n first m other ∙ is ∙ sym late
    ∙ least_set moments n before m there apart

-- ---- what is due

none_come : (now : ℕ) (moments : List (Option ℕ)) (first : Option ℕ) → is_due now (fold earlier first moments) ≡ false
    → (is_due now first ≡ false) × (list_any (is_due now) moments ≡ false)
none_come now [] first e = (e, refl)
none_come now (m ∷ moments) first e =
    let rest = none_come now moments (earlier first m) e in
    let both = both_later now first m rest.0 in
    (both.0, rw both.1 rest.1)

pub none_due : (now : ℕ) (moments : List (Option ℕ)) → is_due now (least_of moments) ≡ false → list_any (is_due now) moments ≡ false
none_due now moments e = (none_come now moments None e).1

-- ---- the rows before one, and that one

one_more : (moments : List (Option ℕ)) (i : ℕ) → i < length moments
    → (take (i + 1) moments ≡ take i moments ++ get_or moments i None ∷ []) × (length (take i moments) ≡ i)
one_more [] i lt = absurd (omega arith)
one_more (x ∷ moments) zero lt = (refl, refl)
one_more (x ∷ moments) (suc i) lt =
    let rest = one_more moments i (omega arith) in
    let on : suc i + 1 ≡ suc (i + 1) = omega arith in
    (ap (λ (k : ℕ). take k (x ∷ moments)) on ∙ ap (λ (ms : List (Option ℕ)). x ∷ ms) rest.0, ap suc rest.1)

-- the earliest of these stands there
pub record IsFirstOf (moments : List (Option ℕ)) (place : ℕ) (moment : Option ℕ) : Type 0 where
  pub first : moment_at moments place ≡ least_of moments
  pub least : moment ≡ least_of moments

pub first_on : (moments : List (Option ℕ)) (i first : ℕ) (least : Option ℕ) → i < length moments
    → moment_at (take i moments) first ≡ least_of (take i moments) → least ≡ least_of (take i moments)
    → comes_before (get_or moments i None) least ≡ false → IsFirstOf (take (i + 1) moments) first least
first_on moments i first least lt is e late =
    let m = get_or moments i None in
    let P : List (Option ℕ) → Type 0 = λ ms. IsFirstOf ms first least in
    let still : comes_before m (least_of (take i moments)) ≡ false = ap (comes_before m) (sym e) ∙ late in
    subst P (sym (one_more moments i lt).0) (record {
      first = first_as_before (take i moments) m first is still;
      least = e ∙ sym (least_push (take i moments) m ∙ is_no_earlier m (least_of (take i moments)) still);
    })

pub first_now : (moments : List (Option ℕ)) (i : ℕ) (least : Option ℕ) → i < length moments
    → least ≡ least_of (take i moments) → comes_before (get_or moments i None) least ≡ true
    → IsFirstOf (take (i + 1) moments) i (get_or moments i None)
first_now moments i least lt e early =
    let m = get_or moments i None in
    let more = one_more moments i lt in
    let P : List (Option ℕ) → Type 0 = λ ms. IsFirstOf ms i m in
    let now : comes_before m (least_of (take i moments)) ≡ true = ap (comes_before m) (sym e) ∙ early in
    subst P (sym more.0) (record {
      first = last_is_first (take i moments) m i (sym more.1) now;
      least = sym (least_push (take i moments) m ∙ is_earlier m (least_of (take i moments)) now);
    })
