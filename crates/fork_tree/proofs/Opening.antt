-- Rows that wait, each at its place, are a tree.
use Rattle.fork_tree.proofs.Common.{◌≡◌, ℕ, zero, suc, ◌+◌, ◌<◌, ◌≤◌, ◌⊎◌, inl, inr, List, [], ◌∷◌, length, map, Option, Some, None, slice_get, refl, ap, sym, subst, ◌∙◌, arith, Rules, led, Entry, ◌++◌, most_targets, NewRow, NodePlace, RankedAnswer, Summary}
use Rattle.fork_tree.proofs.Common.{Cell, find, HasKept, IsKept, open_of, path_of, rows_from, rows_of, number_of, AreOlder, new_rows_from, idle, new_entries, waiting_row, place_in, AreListed, AreRanked, IsTree, there_at, get_map, length-map, map-id}
use Rattle.fork_tree.proofs.Common.{slice_get_within, common_steps}
use Rattle.fork_tree.proofs.Traces.{path_top}

-- ---- new rows rise

abbrev pub Follows : ℕ → ℕ → NewRow → Type 0
Follows g p s = (g < s.group) ⊎ ((g ≡ s.group) × (p ≤ s.place))

abbrev pub AllFollow : ℕ → ℕ → List NewRow → Type 0
AllFollow g p [] = Unit {0}
AllFollow g p (s ∷ new_rows) = Follows g p s × AllFollow g p new_rows

-- each goes behind those before it
abbrev pub AreRising : List NewRow → Type 0
AreRising [] = Unit {0}
AreRising (s ∷ new_rows) = AllFollow s.group (suc s.place) new_rows × AreRising new_rows

follow_on : (g p h r : ℕ) (s : NewRow) → (g < h) ⊎ ((g ≡ h) × (p ≤ r)) → Follows h r s → Follows g p s
follow_on g p h r s a b = grind arith

all_on : (g p h r : ℕ) (new_rows : List NewRow) → (g < h) ⊎ ((g ≡ h) × (p ≤ r)) → AllFollow h r new_rows → AllFollow g p new_rows
all_on g p h r [] a b = b
all_on g p h r (s ∷ new_rows) a b = (follow_on g p h r s a b.0, all_on g p h r new_rows a b.1)

pub new_rows_follow : (before : Option ℕ) (g p : ℕ) (qs : List ℕ) → AllFollow g p (new_rows_from before g p qs)
new_rows_follow before g p [] = tt
new_rows_follow before g p (q ∷ qs) = grind (arith, all_on, new_rows_follow (Some q) (suc g) 1 qs, new_rows_follow (Some q) g (suc p) qs)

pub new_rows_rise : (before : Option ℕ) (g p : ℕ) (qs : List ℕ) → AreRising (new_rows_from before g p qs)
new_rows_rise before g p [] = tt
new_rows_rise before g p (q ∷ qs) = grind (arith, new_rows_follow, new_rows_rise (Some q) (suc g) 1 qs, new_rows_rise (Some q) g (suc p) qs)

pub new_rows_count : (before : Option ℕ) (g p : ℕ) (qs : List ℕ) → length (new_rows_from before g p qs) ≡ length qs
new_rows_count before g p [] = refl
new_rows_count before g p (q ∷ qs) = grind (arith, new_rows_count (Some q) (suc g) 1 qs, new_rows_count (Some q) g (suc p) qs)

-- ---- what is found at the place of a new row

abbrev pub new_row_path : NewRow → List ℕ
new_row_path s = s.group ∷ s.place ∷ []

abbrev pub new_row_cell : ℕ → NewRow → Cell
new_row_cell n s = record { number = n; q = s.q; standing = idle }

follows_at : (g p : ℕ) (new_rows : List NewRow) (i : ℕ) (s : NewRow) → AllFollow g p new_rows → slice_get new_rows i ≡ Some s → Follows g p s
follows_at g p [] i s a is = absurd cc
follows_at g p (x ∷ new_rows) zero s a is = let at : x ≡ s = cc in subst (Follows g p) at a.0
follows_at g p (x ∷ new_rows) (suc i) s a is = follows_at g p new_rows i s a.1 is

pub find_new_row : (new_rows : List NewRow) (n i : ℕ) (s : NewRow) → AreRising new_rows → slice_get new_rows i ≡ Some s → find (new_entries n new_rows) (new_row_path s) ≡ Some (new_row_cell (n + i) s)
find_new_row [] n i s rise is = absurd cc
find_new_row (x ∷ new_rows) n zero s rise is = grind arith
find_new_row (x ∷ new_rows) n (suc i) s rise is = grind (arith, follows_at, find_new_row new_rows (suc n) i s rise.1 is)

-- ---- what new rows are where they are found

pub record IsFound (all : List NodePlace) (root : List Entry) (p : List ℕ) (n : ℕ) (s : NewRow) : Type 0 where
  pub known : n < length all
  pub path : path_of all n ≡ p ++ new_row_path s
  pub found : find root (path_of all n) ≡ Some (new_row_cell n s)

-- new rows numbered from k on stand below this path
abbrev pub AreFound : List NodePlace → List Entry → List ℕ → ℕ → List NewRow → Type 0
AreFound all root p k new_rows = (i : ℕ) (s : NewRow) → slice_get new_rows i ≡ Some s → IsFound all root p (k + i) s

first_found : (all : List NodePlace) (root : List Entry) (p : List ℕ) (k : ℕ) (s : NewRow) (more : List NewRow) → AreFound all root p k (s ∷ more)
    → IsFound all root p k s
first_found all root p k s more found = let at : k + 0 ≡ k = omega arith in subst (λ (x : ℕ). IsFound all root p x s) at (found 0 s refl)

more_found : (all : List NodePlace) (root : List Entry) (p : List ℕ) (k : ℕ) (s : NewRow) (more : List NewRow) → AreFound all root p k (s ∷ more)
    → AreFound all root p (suc k) more
more_found all root p k s more found i t is = let at : k + suc i ≡ suc k + i = omega arith in subst (λ (x : ℕ). IsFound all root p x t) at (found (suc i) t is)

pub rows_found : (all : List NodePlace) (root : List Entry) (p : List ℕ) (parent : Option ℕ) (k : ℕ) (new_rows : List NewRow) → AreFound all root p k new_rows
    → rows_from all root k (map (place_in parent) new_rows) ≡ map (waiting_row parent) new_rows
rows_found all root p parent k [] found = refl
rows_found all root p parent k (s ∷ more) found = grind (arith, common_steps, first_found all root p k s more found, rows_found all root p parent (suc k) more (more_found all root p k s more found), more_found)

pub listed_found : (all : List NodePlace) (root : List Entry) (p : List ℕ) (k : ℕ) (new_rows : List NewRow) → AreFound all root p k new_rows
    → AreListed all root (map (led p) (new_entries k new_rows))
listed_found all root p k [] found = tt
listed_found all root p k (s ∷ more) found = grind (arith, common_steps, first_found all root p k s more found, listed_found all root p (suc k) more (more_found all root p k s more found), more_found)

-- ---- a tree of such rows alone

pub length_new_entries : (n : ℕ) (new_rows : List NewRow) → length (new_entries n new_rows) ≡ length new_rows
length_new_entries n [] = refl
length_new_entries n (s ∷ new_rows) = omega (arith, length_new_entries (suc n) new_rows)

pub open_new_rows : (n : ℕ) (new_rows : List NewRow) → open_of (new_entries n new_rows) ≡ length new_rows
open_new_rows n [] = refl
open_new_rows n (s ∷ new_rows) = omega (arith, open_new_rows (suc n) new_rows)

pub new_rows_keep_none : (n : ℕ) (new_rows : List NewRow) (k : RankedAnswer) → HasKept (new_entries n new_rows) k → ⊥
new_rows_keep_none n [] k h = h
new_rows_keep_none n (s ∷ new_rows) k h = elim h [ inl e ↦ cc | inr t ↦ new_rows_keep_none (suc n) new_rows k t ]

pub new_rows_ranked : (rules : Rules) (n : ℕ) (new_rows : List NewRow) → AreRanked rules (new_entries n new_rows)
new_rows_ranked rules n [] = tt
new_rows_ranked rules n (s ∷ new_rows) = (refl, new_rows_ranked rules (suc n) new_rows)

older_top : (new_rows : List NewRow) → AreOlder (map (place_in None) new_rows)
older_top new_rows n p m is up = none new_rows n p m is up
  where
    none : (new_rows : List NewRow) (n : ℕ) (p : NodePlace) (m : ℕ) → slice_get (map (place_in None) new_rows) n ≡ Some p → p.parent ≡ Some m → m < n
    none [] n p m is up = absurd cc
    none (s ∷ new_rows) zero p m is up = let at : place_in None s ≡ p = cc in let bad : None ≡ Some m = ap (λ (x : NodePlace). x.parent) at ∙ up in absurd cc
    none (s ∷ new_rows) (suc n) p m is up = omega (arith, none new_rows n p m is up)

top_found : (new_rows : List NewRow) → AreRising new_rows → AreFound (map (place_in None) new_rows) (new_entries 0 new_rows) [] 0 new_rows
top_found new_rows rise i s is = grind (arith, common_steps, path_top (map (place_in None) new_rows) i (place_in None s) (get_map (place_in None) new_rows i s is), slice_get_within new_rows i s is, length-map new_rows (place_in None), find_new_row new_rows 0 i s rise is, get_map)

pub rows_opened : (new_rows : List NewRow) → AreRising new_rows → rows_of (map (place_in None) new_rows) (new_entries 0 new_rows) ≡ map (waiting_row None) new_rows
rows_opened new_rows rise = rows_found (map (place_in None) new_rows) (new_entries 0 new_rows) [] None 0 new_rows (top_found new_rows rise)

pub tree_opened : (rules : Rules) (new_rows : List NewRow) (t : Summary) → AreRising new_rows → length new_rows ≤ most_targets → t.kept ≡ None → t.open_count ≡ length new_rows
    → IsTree rules (map (place_in None) new_rows) (new_entries 0 new_rows) t
tree_opened rules new_rows t rise few kept open_count =
    let P : Option RankedAnswer → Type 0 = λ x. IsKept (new_entries 0 new_rows) x in
    record {
      older = older_top new_rows;
      placed = λ n lt.
          (let s = there_at new_rows n (omega (arith, lt, length-map new_rows (place_in None))) in
          let at : 0 + n ≡ n = omega arith in
          subst (λ (x : ℕ). number_of (find (new_entries 0 new_rows) (path_of (map (place_in None) new_rows) x)) ≡ Some x) at
          (ap number_of (top_found new_rows rise n s.0 s.1).found));
      listed = subst (AreListed (map (place_in None) new_rows) (new_entries 0 new_rows)) (map-id (new_entries 0 new_rows))
          (listed_found (map (place_in None) new_rows) (new_entries 0 new_rows) [] 0 new_rows (top_found new_rows rise));
      ranked = new_rows_ranked rules 0 new_rows;
      summary = record { kept = subst P (sym kept) (new_rows_keep_none 0 new_rows); open_count = open_count ∙ sym (open_new_rows 0 new_rows) };
      sized = length_new_entries 0 new_rows ∙ sym (length-map new_rows (place_in None));
      few = omega (arith, length-map new_rows (place_in None), few);
    }
