-- When a row may start, as facts in place of tests; how the lines above two rows meet.
use Rattle.fork_model.proofs.Common.{◌≡◌, ℕ, zero, suc, ◌<◌, ◌≤◌, Bool, true, false, List, [], ◌∷◌, length, Option, Some, None, refl, ap, arith, ◌∙◌, sym, inl, inr, ◌⊎◌, eq-eqb, slice_get, not, ◌&&◌, ◌||◌, nat_eq, option_eq, list_all, list_any, Row}
use Rattle.fork_model.proofs.Common.{State, is_idle, is_ended, parent_row, line_from, same_group, in_earlier_group, goes_before, parent_ended, may_start, IsSameTarget, common_steps}
use Rattle.std.proofs.Common.{lt-ltb}
use Rattle.fork_model.proofs.laws.StepLemmas.{and_left, and_right, Extends, extends_same, extends_row}

-- ---- tests of lists

pub and_both : (a b : Bool) → a ≡ true → b ≡ true → (a && b) ≡ true
and_both a b e f = ap (λ (x : Bool). x && b) e ∙ f

all_from : {X : Type 0} (p : X → Bool) (xs : List X) → ((m : ℕ) (x : X) → slice_get xs m ≡ Some x → p x ≡ true) → list_all p xs ≡ true
all_from p [] h = refl
all_from p (x ∷ xs) h = and_both (p x) (list_all p xs) (h 0 x refl) (all_from p xs (λ m y is. h (suc m) y is))

all_at : {X : Type 0} (p : X → Bool) (xs : List X) → list_all p xs ≡ true → (m : ℕ) (x : X) → slice_get xs m ≡ Some x → p x ≡ true
all_at p [] e m x is = absurd cc
all_at p (y ∷ xs) e zero x is = let same : y ≡ x = cc in ap p (sym same) ∙ and_left (p y) (list_all p xs) e
all_at p (y ∷ xs) e (suc m) x is = all_at p xs (and_right (p y) (list_all p xs) e) m x is

-- one that fails, where not all pass
abbrev Failing : {X : Type 0} (p : X → Bool) (xs : List X) → Type 0
Failing {X} p xs = (m : ℕ) × (x : X) × (slice_get xs m ≡ Some x) × (p x ≡ false)

all_fails : {X : Type 0} (p : X → Bool) (xs : List X) → list_all p xs ≡ false → Failing p xs
all_fails p [] e = absurd cc
all_fails {X} p (x ∷ xs) e = go (p x) refl e (λ h. all_fails p xs h)
  where
    go : (b : Bool) → p x ≡ b → (b && list_all p xs) ≡ false → (list_all p xs ≡ false → Failing p xs) → Failing p (x ∷ xs)
    go false is e rest = (0, x, refl, is)
    go true is e rest = let later = rest e in (suc later.0, later.1, later.2, later.3)

implied : (a b : Bool) → (not a || b) ≡ true → a ≡ true → b ≡ true
implied a b e h = grind arith

implies : (a b : Bool) → (a ≡ true → b ≡ true) → (not a || b) ≡ true
implies a b h = grind arith

-- ---- groups

pub option_same : (a b : Option ℕ) → option_eq nat_eq a b ≡ true → a ≡ b
option_same a b e = grind arith

option_refl : (a : Option ℕ) → option_eq nat_eq a a ≡ true
option_refl a = grind arith

option_eq_of : (a b : Option ℕ) → a ≡ b → option_eq nat_eq a b ≡ true
option_eq_of a b e = ap (option_eq nat_eq a) (sym e) ∙ option_refl a

pub same_group_refl : (a : Row) → same_group a a ≡ true
same_group_refl a = and_both _ _ (option_refl a.parent) (eq-eqb a.group a.group refl)

earlier_parent : (a b : Row) → in_earlier_group a b ≡ true → a.parent ≡ b.parent
earlier_parent a b e = option_same a.parent b.parent (and_left _ _ e)

pub is_earlier : (a b : Row) → a.parent ≡ b.parent → a.group < b.group → in_earlier_group a b ≡ true
is_earlier a b same less = and_both _ _ (option_eq_of a.parent b.parent same) (lt-ltb a.group b.group less)

earlier_of_same : (r s a : Row) → IsSameTarget r s → in_earlier_group r a ≡ true → in_earlier_group s a ≡ true
earlier_of_same r s a same e = grind arith

-- ---- what a row waits for

pub record MayStart (rows : List Row) (row : Row) : Type 0 where
  pub idle : is_idle row.state ≡ true
  pub members : (m : ℕ) (member : Row) → slice_get rows m ≡ Some member → same_group member row ≡ true → is_idle member.state ≡ true
  pub parent : parent_ended rows row.parent ≡ true
  pub before : (m : ℕ) (other : Row) → slice_get rows m ≡ Some other → goes_before rows other row ≡ true → is_ended other.state ≡ true

pub may_start_facts : (rows : List Row) (row : Row) → may_start rows row ≡ true → MayStart rows row
may_start_facts rows row e = grind (arith, common_steps, and_left, implied, all_at, and_right)

pub may_start_of : (rows : List Row) (row : Row) → MayStart rows row → may_start rows row ≡ true
may_start_of rows row h = grind (arith, all_from)

-- a row goes before it that has not ended
abbrev pub WaitsFor : List Row → Row → Type 0
WaitsFor rows row =
    (m : ℕ) × (other : Row) × (slice_get rows m ≡ Some other) × (goes_before rows other row ≡ true) × (is_ended other.state ≡ false)

-- where all else is there, a row that may not start waits for another
pub waits_for : (rows : List Row) (row : Row) → is_idle row.state ≡ true
    → ((m : ℕ) (member : Row) → slice_get rows m ≡ Some member → same_group member row ≡ true → is_idle member.state ≡ true)
    → parent_ended rows row.parent ≡ true → may_start rows row ≡ false → WaitsFor rows row
waits_for rows row idle members parent e = grind (arith, all_from, implies, all_fails)

pub idle_not_ended : (state : State) → is_idle state ≡ true → is_ended state ≡ true → ⊥
idle_not_ended state i e = grind arith

-- ---- lines

-- a row of this line stands in an earlier group under the row's parent
abbrev pub Passes : List Row → Row → Type 0
Passes line a = list_any (λ above. in_earlier_group above a) line ≡ true

pub or_cases : (a b : Bool) → (a || b) ≡ true → (a ≡ true) ⊎ (b ≡ true)
or_cases a b e = grind arith

or_left : (a b : Bool) → a ≡ true → (a || b) ≡ true
or_left a b e = ap (λ (x : Bool). x || b) e

pub or_right : (a b : Bool) → b ≡ true → (a || b) ≡ true
or_right a b e = grind arith

-- with more steps and more rows a line is longer
pub line_more : (k l : ℕ) (rows later : List Row) (a r s : Row) → k ≤ l → Extends rows later → IsSameTarget r s
    → Passes (line_from k rows (Some r)) a → Passes (line_from l later (Some s)) a
line_more zero l rows later a r s le ext same is = absurd cc
line_more (suc k) zero rows later a r s le ext same is = absurd (omega arith)
line_more (suc k) (suc l) rows later a r s le ext same is =
    elim (or_cases _ _ is) [
      | inl h ↦ or_left _ _ (earlier_of_same r s a same h)
      | inr h ↦ or_right _ _ (ap (λ (p : Option ℕ). list_any (λ above. in_earlier_group above a) (line_from l later (parent_row later p))) same.parent
          ∙ up r.parent h (λ q p. line_more k l rows later a q p (omega arith) ext))
    ]
  where
    at : (p : ℕ) (o : Option Row) → slice_get rows p ≡ o → Passes (line_from k rows o) a
        → ((q x : Row) → IsSameTarget q x → Passes (line_from k rows (Some q)) a → Passes (line_from l later (Some x)) a)
        → Passes (line_from l later (slice_get later p)) a
    at p None there h rest = absurd cc
    at p (Some q) there h rest =
        let new = extends_row rows later ext p q there in
        ap (λ (o : Option Row). list_any (λ above. in_earlier_group above a) (line_from l later o)) new.1 ∙ rest q new.0 new.2.target h

    up : (p : Option ℕ) → Passes (line_from k rows (parent_row rows p)) a
        → ((q x : Row) → IsSameTarget q x → Passes (line_from k rows (Some q)) a → Passes (line_from l later (Some x)) a)
        → Passes (line_from l later (parent_row later p)) a
    up None h rest = absurd cc
    up (Some p) h rest = at p (slice_get rows p) refl h rest

pub line_fuel : (k l : ℕ) (rows : List Row) (a : Row) (o : Option Row) → k ≤ l → Passes (line_from k rows o) a → Passes (line_from l rows o) a
line_fuel k l rows a o le is = grind (arith, line_more, extends_same)

-- the line above the row passes the other's
abbrev pub AbovePasses : ℕ → List Row → Row → Row → Type 0
AbovePasses k rows a b = Passes (line_from k rows (parent_row rows a.parent)) b

-- of two rows that one line passes, both stand under one parent, or the line above the one passes the other
pub line_meets : (k l : ℕ) (rows : List Row) (a b : Row) (o : Option Row) → k ≤ suc l → Passes (line_from k rows o) a → Passes (line_from k rows o) b
    → (a.parent ≡ b.parent) ⊎ ((AbovePasses l rows a b) ⊎ (AbovePasses l rows b a))
line_meets k l rows a b None le f g = absurd cc
line_meets zero l rows a b (Some r) le f g = absurd cc
line_meets (suc k) l rows a b (Some r) le f g =
    go (or_cases _ _ f) (or_cases _ _ g) (λ h i. line_meets k l rows a b (parent_row rows r.parent) (omega arith) h i)
  where
    above : (x y : Row) → in_earlier_group r x ≡ true → Passes (line_from k rows (parent_row rows r.parent)) y → AbovePasses l rows x y
    above x y e h =
        let longer : Passes (line_from l rows (parent_row rows r.parent)) y = line_fuel k l rows y (parent_row rows r.parent) (omega arith) h in
        ap (λ (p : Option ℕ). list_any (λ above. in_earlier_group above y) (line_from l rows (parent_row rows p))) (sym (earlier_parent r x e)) ∙ longer

    go : (in_earlier_group r a ≡ true) ⊎ (Passes (line_from k rows (parent_row rows r.parent)) a)
        → (in_earlier_group r b ≡ true) ⊎ (Passes (line_from k rows (parent_row rows r.parent)) b)
        → (Passes (line_from k rows (parent_row rows r.parent)) a → Passes (line_from k rows (parent_row rows r.parent)) b
        → (a.parent ≡ b.parent) ⊎ ((AbovePasses l rows a b) ⊎ (AbovePasses l rows b a)))
        → (a.parent ≡ b.parent) ⊎ ((AbovePasses l rows a b) ⊎ (AbovePasses l rows b a))
    go (inl x) (inl y) rest = inl (sym (earlier_parent r a x) ∙ earlier_parent r b y)
    go (inl x) (inr y) rest = inr (inl (above a b x y))
    go (inr x) (inl y) rest = inr (inr (above b a y x))
    go (inr x) (inr y) rest = rest x y

-- ---- rows that may start

pub has_rows : (rows : List Row) (m : ℕ) (a : Row) → slice_get rows m ≡ Some a → (l : ℕ) × (length rows ≡ suc l)
has_rows [] m a is = absurd cc
has_rows (x ∷ rows) m a is = (length rows, refl)

goes_by_above : (rows : List Row) (l : ℕ) (a b : Row) → length rows ≡ suc l → AbovePasses l rows a b → goes_before rows a b ≡ true
goes_by_above rows l a b len h = grind arith

pub goes_by_group : (rows : List Row) (l : ℕ) (a b : Row) → length rows ≡ suc l → in_earlier_group a b ≡ true → goes_before rows a b ≡ true
goes_by_group rows l a b len h = grind arith

-- of two that may start neither goes before the other
pub not_before : (rows : List Row) (m : ℕ) (a b : Row) → slice_get rows m ≡ Some a → MayStart rows a → MayStart rows b → goes_before rows a b ≡ true → ⊥
not_before rows m a b is f g goes = idle_not_ended a.state f.idle (g.before m a is goes)

pub not_above : (rows : List Row) (l m : ℕ) (a b : Row) → length rows ≡ suc l → slice_get rows m ≡ Some a → MayStart rows a → MayStart rows b
    → AbovePasses l rows a b → ⊥
not_above rows l m a b len is f g h = not_before rows m a b is f g (goes_by_above rows l a b len h)

-- under one parent they stand in one group
pub one_group : (rows : List Row) (i j : ℕ) (a b : Row) → slice_get rows i ≡ Some a → slice_get rows j ≡ Some b
    → MayStart rows a → MayStart rows b → a.parent ≡ b.parent → a.group ≡ b.group
one_group rows i j a b is also f g same = grind (arith, common_steps, not_before)

-- where one line passes both, they stand under one parent
pub one_parent : (rows : List Row) (k i j : ℕ) (a b : Row) (o : Option Row) → k ≤ length rows → slice_get rows i ≡ Some a → slice_get rows j ≡ Some b
    → MayStart rows a → MayStart rows b → Passes (line_from k rows o) a → Passes (line_from k rows o) b → a.parent ≡ b.parent
one_parent rows k i j a b o le is also f g p q =
    let len = has_rows rows i a is in
    go len.0 len.1
  where
    go : (l : ℕ) → length rows ≡ suc l → a.parent ≡ b.parent
    go l len =
        elim (line_meets k l rows a b o (omega arith) p q) [
          | inl h ↦ h
          | inr (inl h) ↦ absurd (not_above rows l i a b len is f g h)
          | inr (inr h) ↦ absurd (not_above rows l j b a len also g f h)
        ]
