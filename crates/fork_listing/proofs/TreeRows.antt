-- The branches of a listing, each rightly placed, are the rows of a tree, and its best answer is theirs.
use Rattle.fork_listing.proofs.Common.{◌≡◌, ℕ, zero, suc, ◌+◌, ◌<◌, ◌≤◌, Bool, not, List, [], ◌∷◌, length, map, Option, Some, None, refl, ap, sym, subst, ◌∙◌, arith, slice_get, option_map, Rules, stored_at, BestRef, RowRef, IsBest, ListedTarget}
use Rattle.fork_listing.proofs.Common.{HoldsBelow, rows_of, ended_at, IsParent, IsBefore, Follows, FollowsTarget, IsInPlace, IsPlaced, most_targets, some_same, slice_get_within, given_row}
use Rattle.std.proofs.Common.{if◌then◌else◌, min}
use Rattle.fork_model.specs.Choice.{score_of}
use Rattle.fork_tree.specs.States.{has_ended}
use Rattle.fork_tree.specs.Given.{AreRows}
use Rattle.fork_tree.proofs.laws.Ordering.{IsNext, ordered_rows}
use Rattle.fork_listing.specs.inner.TreeRows.{group_behind, row_behind, rows_behind, tree_rows}

-- ---- row by row

-- the group of the row before
abbrev group_kept : Option RowRef → ℕ
group_kept None = 0
group_kept (Some before) = before.group

group_bound : (before : Option RowRef) (target : ListedTarget) → group_behind before target ≤ suc (group_kept before)
group_bound before target = grind arith

-- a group is no further on than the rows
group_low : (before : Option RowRef) (targets : List ListedTarget) (n : ℕ) (row : RowRef) → slice_get (rows_behind before targets) n ≡ Some row → row.group ≤ suc (group_kept before) + n
group_low before [] n row is = absurd cc
group_low before (t ∷ ts) zero row is = omega (arith, group_bound before t, ap (λ (x : RowRef). x.group) (some_same is))
group_low before (t ∷ ts) (suc n) row is = omega (arith, group_bound before t, group_low (Some (row_behind before t)) ts n row is)

length_behind : (before : Option RowRef) (targets : List ListedTarget) → length (rows_behind before targets) ≡ length targets
length_behind before [] = refl
length_behind before (t ∷ ts) = ap suc (length_behind (Some (row_behind before t)) ts)

-- a row is that of a line
record IsRowOf (targets : List ListedTarget) (n : ℕ) (row : RowRef) : Type 0 where
  target : ListedTarget
  here : slice_get targets n ≡ Some target
  before : Option RowRef
  same : row ≡ row_behind before target

row_found : (before : Option RowRef) (targets : List ListedTarget) (n : ℕ) (row : RowRef) → slice_get (rows_behind before targets) n ≡ Some row → IsRowOf targets n row
row_found before [] n row is = absurd cc
row_found before (t ∷ ts) zero row is = record { target = t; here = refl; before = before; same = sym (some_same is) }
row_found before (t ∷ ts) (suc n) row is = grind (arith, row_found (Some (row_behind before t)) ts n row is)

next_found : (before : Option RowRef) (targets : List ListedTarget) (n : ℕ) (a b : RowRef) → slice_get (rows_behind before targets) n ≡ Some a
    → slice_get (rows_behind before targets) (suc n) ≡ Some b → (t : ListedTarget) × (slice_get targets (suc n) ≡ Some t) × (b ≡ row_behind (Some a) t)
next_found before [] n a b ia ib = absurd cc
next_found before (t ∷ []) n a b ia ib = absurd cc
next_found before (t ∷ u ∷ ts) zero a b ia ib = grind arith
next_found before (t ∷ u ∷ ts) (suc n) a b ia ib = next_found (Some (row_behind before t)) (u ∷ ts) n a b ia ib

first_found : (targets : List ListedTarget) (row : RowRef) → slice_get (tree_rows targets) 0 ≡ Some row → row.group ≡ 0
first_found [] row is = absurd cc
first_found (t ∷ ts) row is = ap (λ (x : RowRef). x.group) (sym (some_same is))

-- ---- the order of the parents: none, then by the event that ended them

abbrev at_or_0 : Option ℕ → ℕ
at_or_0 None = 0
at_or_0 (Some at) = at

abbrev order : List ListedTarget → Option ℕ → ℕ
order targets None = 0
order targets (Some m) = suc (at_or_0 (ended_at targets m))

rising : (a b : Option ℕ) → IsBefore a b → at_or_0 a < at_or_0 b
rising a b h = grind arith

turned : (b : Bool) (g : ℕ) → g < 65535 → (if b then g else min (g + 1) 65535) ≡ (if not b then suc g else g)
turned b g low = grind arith

next_behind : (targets : List ListedTarget) (a : RowRef) (t : ListedTarget) → a.group < 65535 → Follows targets a.parent t.parent → IsNext (order targets) a (row_behind (Some a) t)
next_behind targets a t low follows = grind arith

-- ---- so they are the rows of a tree

pub are_rows : (depth : ℕ) (targets : List ListedTarget) (rows : List RowRef) → length targets ≤ most_targets → HoldsBelow (IsPlaced depth targets) (length targets)
    → rows ≡ tree_rows targets → AreRows rows
are_rows depth targets rows few placed is =
    let P : List RowRef → Type 0 = λ x. AreRows x in
    subst P (sym is) (ordered_rows (order targets) (tree_rows targets) (record {
      few = omega (arith, length_behind None targets, few);
      number = λ n row at.
          let h = row_found None targets n row at in
          ap (λ (x : RowRef). x.no) h.same ∙ (place n h.target h.here).number;
      parent = λ n m row at e. record {
        older = (parent_of n m row at e).0;
        ended = λ p there. ap (λ (x : RowRef). has_ended x.state) (row_found None targets m p there).same;
      };
      first = first_found targets;
      next = λ n a b ia ib.
          let h = next_found None targets n a b ia ib in
          let Q : RowRef → Type 0 = λ x. IsNext (order targets) a x in
          subst Q (sym h.2) (next_behind targets a h.0 (low n a ia) (behind n a h.0 ia h.1));
    }))
  where
    place : (n : ℕ) (target : ListedTarget) → slice_get targets n ≡ Some target → IsInPlace depth targets n target
    place n target here = placed n (slice_get_within targets n target here) target here

    parent_of : (n m : ℕ) (row : RowRef) → slice_get (tree_rows targets) n ≡ Some row → row.parent ≡ Some m → IsParent targets n (Some m)
    parent_of n m row at e =
        let h = row_found None targets n row at in
        let Q : Option ℕ → Type 0 = λ o. IsParent targets n o in
        let same : h.target.parent ≡ Some m = sym (ap (λ (x : RowRef). x.parent) h.same) ∙ e in
        subst Q same (place n h.target h.here).parent

    low : (n : ℕ) (a : RowRef) → slice_get (tree_rows targets) n ≡ Some a → a.group < 65535
    low n a ia = omega (arith, group_low None targets n a ia, slice_get_within (tree_rows targets) n a ia, length_behind None targets, few)

    behind : (n : ℕ) (a : RowRef) (t : ListedTarget) → slice_get (tree_rows targets) n ≡ Some a → slice_get targets (suc n) ≡ Some t → Follows targets a.parent t.parent
    behind n a t ia here =
        let k = row_found None targets n a ia in
        let Q : Option ListedTarget → Type 0 = λ o. FollowsTarget targets o t.parent in
        let R : Option ℕ → Type 0 = λ o. Follows targets o t.parent in
        let same : a.parent ≡ k.target.parent = ap (λ (x : RowRef). x.parent) k.same in
        subst R (sym same) (subst Q k.here (place (suc n) t here).follows)

-- ---- and the best of the tree is theirs

same_stored : (before : Option RowRef) (targets : List ListedTarget) (n : ℕ) → stored_at (slice_get (map given_row (rows_behind before targets)) n) ≡ stored_at (slice_get (rows_of targets) n)
same_stored before [] n = refl
same_stored before (t ∷ ts) zero = refl
same_stored before (t ∷ ts) (suc n) = same_stored (Some (row_behind before t)) ts n

pub best_same : (rules : Rules) (targets : List ListedTarget) (best : Option BestRef) → IsBest rules (map given_row (tree_rows targets)) best → IsBest rules (rows_of targets) best
best_same rules targets None none = λ m score is. none m score (ap (option_map score_of) (same_stored None targets m) ∙ is)
best_same rules targets (Some b) first = record {
  stored = ap (option_map score_of) (sym (same_stored None targets b.no)) ∙ first.stored;
  first = λ m other is. first.first m other (ap (option_map score_of) (same_stored None targets m) ∙ is);
}
