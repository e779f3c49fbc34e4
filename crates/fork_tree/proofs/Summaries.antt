-- What is kept of branches as one of them changes.
use Rattle.fork_tree.proofs.Common.{◌≡◌, ℕ, zero, suc, ◌+◌, ◌<◌, ◌≤◌, Bool, false, IsTrue, List, [], ◌∷◌, ◌++◌, length, map, Option, Some, None, refl, ap, sym, subst, ◌∙◌, arith, inl, inr, ◌⊎◌, get_or, length-append, if◌then◌else◌, set, BranchState}
use Rattle.fork_tree.proofs.Common.{RankedAnswer, Summary, State, has_ended, Cell, Entry, find, node_rows, pushed, joined, open_at, HasKept, IsKept, open_state, open_of, IsNode, Better, Gains, nil_from_length, get_or_default, Changes, with_branch}
use Rattle.fork_tree.proofs.Common.{common_steps}
use Rattle.fork_tree.specs.Summary.{IsSummary}
use Rattle.fork_tree.proofs.BranchChanges.{step_in, find_joined, at_node, with_branch_joined, node_ends}

-- ---- lists

pub has_append : (xs ys : List Entry) (o : RankedAnswer) → HasKept (xs ++ ys) o → HasKept xs o ⊎ HasKept ys o
has_append [] ys o h = inr h
has_append (x ∷ xs) ys o h = elim h [ inl e ↦ inl (inl e) | inr t ↦ elim (has_append xs ys o t) [ inl u ↦ inl (inr u) | inr u ↦ inr u ] ]

pub has_left : (xs ys : List Entry) (o : RankedAnswer) → HasKept xs o → HasKept (xs ++ ys) o
has_left [] ys o h = absurd h
has_left (x ∷ xs) ys o h = elim h [ inl e ↦ inl e | inr t ↦ inr (has_left xs ys o t) ]

pub has_right : (xs ys : List Entry) (o : RankedAnswer) → HasKept ys o → HasKept (xs ++ ys) o
has_right [] ys o h = h
has_right (x ∷ xs) ys o h = inr (has_right xs ys o h)

pub has_pushed : (k : ℕ) (xs : List Entry) (o : RankedAnswer) → HasKept (map (pushed k) xs) o → HasKept xs o
has_pushed k [] o h = h
has_pushed k (x ∷ xs) o h = elim h [ inl e ↦ inl e | inr t ↦ inr (has_pushed k xs o t) ]

pub pushed_has : (k : ℕ) (xs : List Entry) (o : RankedAnswer) → HasKept xs o → HasKept (map (pushed k) xs) o
pushed_has k [] o h = h
pushed_has k (x ∷ xs) o h = elim h [ inl e ↦ inl e | inr t ↦ inr (pushed_has k xs o t) ]

pub open_append : (xs ys : List Entry) → open_of (xs ++ ys) ≡ open_of xs + open_of ys
open_append [] ys = omega arith
open_append (x ∷ xs) ys = omega (arith, open_append xs ys)

pub open_pushed : (k : ℕ) (xs : List Entry) → open_of (map (pushed k) xs) ≡ open_of xs
open_pushed k [] = refl
open_pushed k (x ∷ xs) = ap (λ n. open_state x.cell.standing.state + n) (open_pushed k xs)

pub open_one : (s : State) → open_state s ≤ 1
open_one s = grind arith

pub open_le : (xs : List Entry) → open_of xs ≤ length xs
open_le [] = omega arith
open_le (x ∷ xs) = omega (arith, open_le xs, open_one x.cell.standing.state)

-- where a branch has not ended, the count is not 0
pub open_some : (rows : List Entry) (path : List ℕ) → IsTrue (open_at rows path) → 0 < open_of rows
open_some [] path h = absurd cc
open_some (e ∷ es) path h = grind (arith, open_some es path)

-- ---- one part changes

pub sized_joined : (j i : ℕ) (parts : List (List Entry)) (new : List Entry) → i < length parts
    → length (joined j (set parts i new)) + length (get_or parts i []) ≡ length (joined j parts) + length new
sized_joined j i [] new lt = absurd (omega arith)
sized_joined j zero (x ∷ xs) new lt = grind (arith, common_steps)
sized_joined j (suc i) (x ∷ xs) new lt =
    omega (arith, length-append (map (pushed j) x) (joined (suc j) xs), length-append (map (pushed j) x) (joined (suc j) (set xs i new)), sized_joined (suc j) i xs new (omega arith))

pub opens_joined : (j i : ℕ) (parts : List (List Entry)) (new : List Entry) → i < length parts
    → open_of (joined j (set parts i new)) + open_of (get_or parts i []) ≡ open_of (joined j parts) + open_of new
opens_joined j i [] new lt = absurd (omega arith)
opens_joined j zero (x ∷ xs) new lt = grind (arith, open_append, open_pushed)
opens_joined j (suc i) (x ∷ xs) new lt =
    omega (arith, open_append (map (pushed j) x) (joined (suc j) xs), open_append (map (pushed j) x) (joined (suc j) (set xs i new)), opens_joined (suc j) i xs new (omega arith))

gains_left : (k : ℕ) (xs new rest : List Entry) (a : Option RankedAnswer) → Gains xs new a → Gains (map (pushed k) xs ++ rest) (map (pushed k) new ++ rest) a
gains_left k xs new rest a g = grind (arith, has_append, has_pushed, has_left, pushed_has, has_right)

gains_right : (first xs new : List Entry) (a : Option RankedAnswer) → Gains xs new a → Gains (first ++ xs) (first ++ new) a
gains_right first xs new a g = grind (arith, has_append, has_left, has_right)

gains_joined : (j i : ℕ) (parts : List (List Entry)) (new : List Entry) (a : Option RankedAnswer) → i < length parts → Gains (get_or parts i []) new a
    → Gains (joined j parts) (joined j (set parts i new)) a
gains_joined j i [] new a lt g = absurd (omega arith)
gains_joined j zero (x ∷ xs) new a lt g = gains_left j x new (joined (suc j) xs) a g
gains_joined j (suc i) (x ∷ xs) new a lt g =
    gains_right (map (pushed j) x) (joined (suc j) xs) (joined (suc j) (set xs i new)) a (gains_joined (suc j) i xs new a (omega arith) g)

-- ---- the same at the whole, as a step down finds it

pub step_changes : (rows : List Entry) (parts : List (List Entry)) (path rest : List ℕ) (i : ℕ) (part new b : List Entry) (s : BranchState) (count : ℕ)
    → joined 0 parts ≡ rows → path ≡ i ∷ rest
    → part ≡ get_or parts i part → IsTrue (open_at rows path) → Changes part new rest s b count → Changes rows (joined 0 (set parts i new)) path s b count
step_changes rows parts path rest i part new b s count v p is h c =
    let lt : i < length parts = step_in rows parts path rest i v p h in
    grind (arith, common_steps, get_or_default parts i part [] lt, set parts i new, sized_joined 0 i parts new lt, opens_joined 0 i parts new lt, with_branch_joined, gains_joined, find_joined)

pub kept_gained : (old new : List Entry) (kept a r : Option RankedAnswer) → IsKept old kept → Gains old new a → Better kept a r → IsKept new r
kept_gained old new kept a r h g e = grind arith

pub summary_gained : (old new : List Entry) (t r : Summary) (a : Option RankedAnswer) (opens : ℕ) → IsSummary old t → Gains old new a → Better t.kept a r.kept
    → open_of new + 1 ≡ open_of old + opens → r.open_count + 1 ≡ t.open_count + opens → IsSummary new r
summary_gained old new t r a opens h g b count open_count = grind (arith, common_steps, kept_gained)

-- a node whose own row changes
pub node_changes : (rows below b : List Entry) (n q count : ℕ) (own s : BranchState) (t : Summary) (path : List ℕ) → node_rows n q own below ≡ rows
    → length path ≡ 0 → IsNode n q own below t
    → IsTrue (open_at rows path) → IsKept b None → open_state s.state + open_of b ≡ count → Changes rows (node_rows n q s b) path s b count
node_changes rows below b n q count own s t path v p was h fresh opens =
    let cell : Cell = record { number = n; q = q; standing = own } in
    let on : has_ended own.state ≡ false = at_node rows below cell path v p h in
    let empty : below ≡ [] = was.tried on in
    record {
      branch = node_ends rows below cell path s b v p was.tried h;
      sized = omega (arith, ap length v, ap length empty);
      counted = omega (arith, ap open_of v, ap open_of empty, ap {B = ℕ} (λ (x : Bool). if x then 0 else 1) on, opens);
      gained = record {
        only = λ k u. elim u [ inl a ↦ inr a | inr x ↦ absurd (fresh k x) ];
        all = λ k u. elim (subst (λ (x : List Entry). HasKept x k) (sym v) u) [
          | inl a ↦ (let none : None ≡ Some k = sym (was.silent on) ∙ a in absurd cc)
          | inr x ↦ absurd (subst (λ (y : List Entry). HasKept y k) empty x)
        ];
        own = λ k e. inl e;
      };
      alone = λ k x. sym (ap (λ r. find r (path ++ k ∷ x)) v) ∙ ap (λ y. find (node_rows n q own below) (y ++ k ∷ x)) (nil_from_length path p)
          ∙ ap (λ r. find r (k ∷ x)) empty;
    }

-- a row below it changes
pub node_past : (rows below new b : List Entry) (c : Cell) (path : List ℕ) (s : BranchState) (count : ℕ) → record { path = []; cell = c } ∷ below ≡ rows
    → 0 < length path
    → Changes below new path s b count → Changes rows (record { path = []; cell = c } ∷ new) path s b count
node_past rows below new b c [] s count v some h = absurd (omega arith)
node_past rows below new b c (x ∷ xs) s count v some h = grind arith

pub node_below : (n q : ℕ) (own : BranchState) (below new : List Entry) (t r : Summary) (path : List ℕ) (s : BranchState) (b : List Entry) (count : ℕ)
    → IsNode n q own below t
    → Changes below new path s b count → Better t.kept s.answer r.kept → r.open_count + 1 ≡ t.open_count + count → IsNode n q own new r
node_below n q own below new t r path s b count was h better open_count = record {
  tried = λ e. h.branch ∙ ap (λ x. with_branch x path s b) (was.tried e);
  silent = was.silent;
  summary = summary_gained (node_rows n q own below) (node_rows n q own new) t r s.answer count was.summary
      (gains_right (record { path = []; cell = record { number = n; q = q; standing = own } } ∷ []) below new s.answer h.gained) better
      (omega (arith, h.counted)) open_count;
}
