-- A change at a row's path is a change of this row alone.
use Rattle.fork_tree.proofs.Common.{◌≡◌, ℕ, zero, suc, ◌+◌, ◌<◌, ◌≤◌, ◌&&◌, true, false, IsTrue, List, [], ◌∷◌, ◌++◌, length, map, Option, Some, None, slice_get, refl, ap, sym, ◌∙◌, arith, if◌then◌else◌, eqb, eq-eqb, eqb-true, Row, is_ended, is_row}
use Rattle.fork_tree.proofs.Common.{with_state, BranchState, State, NodePlace, has_ended, plain_state, Cell, Entry, same, find, open_at, led, in_standing, changed, with_branch, path_of, row_at, rows_from, rows_of, IsPlaced, is_unended, slice_get_within}
use Rattle.fork_tree.proofs.Common.{common_steps}
use Rattle.fork_tree.proofs.BranchChanges.{find_past}

pub same_true : (a b : List ℕ) → same a b ≡ true → a ≡ b
same_true [] [] h = refl
same_true [] (y ∷ ys) h = absurd cc
same_true (x ∷ xs) [] h = absurd cc
same_true (x ∷ xs) (y ∷ ys) h =
    elim (eqb x y) as (λ t. eqb x y ≡ t → (t && same xs ys) ≡ true → x ∷ xs ≡ y ∷ ys)
    [ true ↦ (λ e k. let tail : xs ≡ ys = same_true xs ys k in let head : x ≡ y = eqb-true x y e in cc) | false ↦ (λ e k. absurd cc) ] refl h

pub same_refl : (a : List ℕ) → same a a ≡ true
same_refl [] = refl
same_refl (x ∷ xs) = rw (eq-eqb x x refl) (same_refl xs)

abbrev pub entered : BranchState → Option Cell → Option Cell
entered s None = None
entered s (Some c) = Some (in_standing s c)

pub find_at : (root : List Entry) (p : List ℕ) (s : BranchState) (b : List Entry) → find (with_branch root p s b) p ≡ entered s (find root p)
find_at [] p s b = refl
find_at (e ∷ es) p s b = grind (arith, find_at es p s b)

-- where the path leads to none of the branches put below, it leads where it did
pub find_else : (root : List Entry) (p q : List ℕ) (s : BranchState) (b : List Entry) → (p ≡ q → ⊥) → find (map (led p) b) q ≡ None
    → find (with_branch root p s b) q ≡ find root q
find_else [] p q s b h none = refl
find_else (e ∷ es) p q s b h none =
    elim (same e.path p) as (λ t. same e.path p ≡ t → find ((if t then changed e s b else e ∷ []) ++ with_branch es p s b) q ≡ (if same e.path q then Some e.cell else find es q)) [
      | true ↦ (λ k. rw (differ k) (find_past (map (led e.path) b) (with_branch es p s b) q (ap (λ x. find (map (led x) b) q) (same_true e.path p k) ∙ none)
          ∙ find_else es p q s b h none))
      | false ↦ (λ k. ap (λ r. if same e.path q then Some e.cell else r) (find_else es p q s b h none))
    ] refl
  where
    differ : same e.path p ≡ true → same e.path q ≡ false
    differ k = elim (same e.path q) as (λ t. same e.path q ≡ t → t ≡ false) [ true ↦ (λ l. absurd (h (sym (same_true e.path p k) ∙ same_true e.path q l))) | false ↦ (λ l. refl) ] refl

-- no path of another row leads to the branches put below row n
abbrev pub IsElse : List NodePlace → ℕ → List Entry → Type 0
IsElse all n b = (m : ℕ) → m < length all → (n ≡ m → ⊥) → find (map (led (path_of all n)) b) (path_of all m) ≡ None

-- two numbers have two paths
pub paths_differ : (all : List NodePlace) (root : List Entry) (n m : ℕ) → IsPlaced all root → n < length all → m < length all → (n ≡ m → ⊥) → path_of all n ≡ path_of all m → ⊥
paths_differ all root n m placed ln lm h e = grind arith

pub still_placed : (all : List NodePlace) (root : List Entry) (n : ℕ) (s : BranchState) (b : List Entry) → n < length all → IsPlaced all root → IsElse all n b → IsPlaced all (with_branch root (path_of all n) s b)
still_placed all root n s b ln placed others m lm = grind (arith, find_at, find_else)

rows_later : (all : List NodePlace) (root : List Entry) (n k : ℕ) (ps : List NodePlace) (s : BranchState) (b : List Entry) → IsPlaced all root → IsElse all n b → n < length all → n < k → k + length ps ≤ length all
    → rows_from all (with_branch root (path_of all n) s b) k ps ≡ rows_from all root k ps
rows_later all root n k [] s b placed others ln lt le = refl
rows_later all root n k (p ∷ ps) s b placed others ln lt le =
    let here : find (with_branch root (path_of all n) s b) (path_of all k) ≡ find root (path_of all k) =
    find_else root (path_of all n) (path_of all k) s b (paths_differ all root n k placed ln (omega arith) (λ e. omega arith)) (others k (omega arith) (λ e. omega arith)) in
    let rest : rows_from all (with_branch root (path_of all n) s b) (suc k) ps ≡ rows_from all root (suc k) ps = rows_later all root n (suc k) ps s b placed others ln (omega arith) (omega arith) in
    ap (λ c. row_at p c ∷ rows_from all (with_branch root (path_of all n) s b) (suc k) ps) here ∙ ap (λ r. row_at p (find root (path_of all k)) ∷ r) rest

rows_with : (all : List NodePlace) (root : List Entry) (n k i : ℕ) (ps : List NodePlace) (s : BranchState) (b : List Entry) → IsPlaced all root → IsElse all n b → n < length all → n ≡ k + i → k + length ps ≤ length all
    → rows_from all (with_branch root (path_of all n) s b) k ps ≡ with_state (rows_from all root k ps) i (plain_state s.state)
rows_with all root n k i [] s b placed others ln e le = refl
rows_with all root n k zero (p ∷ ps) s b placed others ln e le = grind (arith, find_at, rows_later)
rows_with all root n k (suc i) (p ∷ ps) s b placed others ln e le =
    let here : find (with_branch root (path_of all n) s b) (path_of all k) ≡ find root (path_of all k) =
    find_else root (path_of all n) (path_of all k) s b (paths_differ all root n k placed ln (omega arith) (λ h. omega arith)) (others k (omega arith) (λ h. omega arith)) in
    let rest : rows_from all (with_branch root (path_of all n) s b) (suc k) ps ≡ with_state (rows_from all root (suc k) ps) i (plain_state s.state) = rows_with all root n (suc k) i ps s b placed others ln (omega arith) (omega arith) in
    ap (λ c. row_at p c ∷ rows_from all (with_branch root (path_of all n) s b) (suc k) ps) here ∙ ap (λ r. row_at p (find root (path_of all k)) ∷ r) rest

-- the whole
pub one_row_changes : (all : List NodePlace) (root : List Entry) (n : ℕ) (s : BranchState) (b : List Entry) → IsPlaced all root → IsElse all n b → n < length all
    → rows_of all (with_branch root (path_of all n) s b) ≡ with_state (rows_of all root) n (plain_state s.state)
one_row_changes all root n s b placed others ln = rows_with all root n 0 n all s b placed others ln (omega arith) (omega arith)

pub ended_plain : (s : State) → is_ended (plain_state s) ≡ has_ended s
ended_plain s = grind arith

-- the row of a number
pub get_row : (all : List NodePlace) (root : List Entry) (k i : ℕ) (ps : List NodePlace) (p : NodePlace) → slice_get ps i ≡ Some p
    → slice_get (rows_from all root k ps) i ≡ Some (row_at p (find root (path_of all (k + i))))
get_row all root k i [] p is = absurd cc
get_row all root k zero (x ∷ ps) p is = grind arith
get_row all root k (suc i) (x ∷ ps) p is = grind (arith, get_row all root (suc k) i ps p is)

abbrev pub IsRowAt : List NodePlace → List Entry → ℕ → ℕ → List NodePlace → Row → Type 0
IsRowAt all root k i ps r = (p : NodePlace) × (slice_get ps i ≡ Some p) × (r ≡ row_at p (find root (path_of all (k + i))))

pub row_got : (all : List NodePlace) (root : List Entry) (k i : ℕ) (ps : List NodePlace) (r : Row) → slice_get (rows_from all root k ps) i ≡ Some r → IsRowAt all root k i ps r
row_got all root k i [] r is = absurd cc
row_got all root k zero (x ∷ ps) r is =
    let at : k ≡ k + zero = omega arith in
    grind (arith, common_steps)
row_got all root k (suc i) (x ∷ ps) r is = grind (arith, row_got all root (suc k) i ps r is)

-- the path of a row that has not ended leads to a node that has not
pub open_row : (rows : List Row) (all : List NodePlace) (root : List Entry) (n : ℕ) → rows_of all root ≡ rows → IsTrue (is_row is_unended (slice_get rows n))
    → (n < length all) × IsTrue (open_at root (path_of all n))
open_row rows all root n v h = grind (arith, common_steps, ended_plain, row_got, slice_get_within)
