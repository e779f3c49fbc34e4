-- The branches that have not ended are as many by number as in the tree.
use Rattle.fork_tree.proofs.Common.{◌≡◌, ℕ, zero, suc, ◌+◌, ◌<◌, ◌≤◌, Bool, true, false, not, List, [], ◌∷◌, length, Option, Some, None, refl, ap, sym, ◌∙◌, arith, if◌then◌else◌, eqb, eq-eqb, Row, is_ended, NodePlace, has_ended, Rules, Tree, plain_state}
use Rattle.fork_tree.proofs.Common.{Cell, Entry, same, find, open_of, path_of, number_of, IsPlaced, row_at, rows_from, rows_of, open_rows, ne_eqb, common_steps}
use Rattle.fork_model.specs.Table as spec
use Rattle.fork_tree.proofs.Placed.{ended_plain}

abbrev pub one : Bool → ℕ
one b = if b then 1 else 0

-- how many of the numbers from k on are n
abbrev pub hits : ℕ → ℕ → ℕ → ℕ
hits n k zero = 0
hits n k (suc m) = one (eqb n k) + hits n (suc k) m

hits_none : (n k m : ℕ) → n < k → hits n k m ≡ 0
hits_none n k zero h = refl
hits_none n k (suc m) h = omega (arith, ap one (ne_eqb n k (λ e. omega (arith, h, e))), hits_none n (suc k) m (omega (arith, h)))

hits_one : (n k m : ℕ) → hits n k m ≤ 1
hits_one n k zero = omega arith
hits_one n k (suc m) = grind (arith, hits_one n (suc k) m, hits_none n (suc k) m)

abbrev pub passing : (Cell → Bool) → List Entry → ℕ
passing t [] = 0
passing t (e ∷ es) = one (t e.cell) + passing t es

-- those of number k
abbrev pub passing_at : (Cell → Bool) → ℕ → List Entry → ℕ
passing_at t k [] = 0
passing_at t k (e ∷ es) = (if t e.cell then one (eqb e.cell.number k) else 0) + passing_at t k es

abbrev pub passing_from : (Cell → Bool) → ℕ → ℕ → List Entry → ℕ
passing_from t k zero es = 0
passing_from t k (suc m) es = passing_at t k es + passing_from t (suc k) m es

from_none : (t : Cell → Bool) (k m : ℕ) → passing_from t k m [] ≡ 0
from_none t k zero = refl
from_none t k (suc m) = omega (arith, from_none t (suc k) m)

from_one : (t : Cell → Bool) (k m : ℕ) (e : Entry) (es : List Entry)
    → passing_from t k m (e ∷ es) ≡ (if t e.cell then hits e.cell.number k m else 0) + passing_from t k m es
from_one t k zero e es = grind arith
from_one t k (suc m) e es = grind (arith, from_one t (suc k) m e es)

from_le : (t : Cell → Bool) (k m : ℕ) (es : List Entry) → passing_from t k m es ≤ passing t es
from_le t k m [] = omega (arith, from_none t k m)
from_le t k m (e ∷ es) = grind (arith, from_one t k m e es, hits_one e.cell.number k m, from_le t k m es)

found_passes : (t : Cell → Bool) (es : List Entry) (p : List ℕ) (c : Cell) (k : ℕ) → find es p ≡ Some c → c.number ≡ k → one (t c) ≤ passing_at t k es
found_passes t [] p c k h n = absurd cc
found_passes t (e ∷ es) p c k h n =
    elim (same e.path p) as (λ b. (if b then Some e.cell else find es p) ≡ Some c → one (t c) ≤ (if t e.cell then one (eqb e.cell.number k) else 0) + passing_at t k es) [
      | true ↦ (λ g. (let at : e.cell ≡ c = cc in own (t e.cell) (ap (λ (x : Cell). one (t x)) at) (hit e.cell.number k (ap (λ (x : Cell). x.number) at ∙ n))))
      | false ↦ (λ g. (let rest = found_passes t es p c k g n in omega (arith, rest)))
    ] h
  where
    hit : (a b : ℕ) → a ≡ b → one (eqb a b) ≡ 1
    hit a b e = ap one (eq-eqb a b e)

    own : (b : Bool) → one b ≡ one (t c) → one (eqb e.cell.number k) ≡ 1 → one (t c) ≤ (if b then one (eqb e.cell.number k) else 0) + passing_at t k es
    own true f g = omega (arith, f, g)
    own false f g = omega (arith, f, g)

abbrev pub passing_rows : (ℕ → spec.State → Bool) → ℕ → List Row → ℕ
passing_rows r k [] = 0
passing_rows r k (row ∷ rows) = one (r k row.state) + passing_rows r (suc k) rows

-- the test of a branch is that of its row
abbrev pub Agree : (Cell → Bool) → (ℕ → spec.State → Bool) → Type 0
Agree t r = (c : Cell) → r c.number (plain_state c.standing.state) ≡ t c

rows_le : (t : Cell → Bool) (r : ℕ → spec.State → Bool) (all : List NodePlace) (root : List Entry) (k : ℕ) (ps : List NodePlace)
    → Agree t r → IsPlaced all root → k + length ps ≤ length all
    → passing_rows r k (rows_from all root k ps) ≤ passing_from t k (length ps) root
rows_le t r all root k [] agree placed le = omega arith
rows_le t r all root k (p ∷ ps) agree placed le =
    let here : one (r k (row_at p (find root (path_of all k))).state) ≤ passing_at t k root = row (find root (path_of all k)) refl (placed k (omega (arith, le))) in
    omega (arith, here, rows_le t r all root (suc k) ps agree placed (omega (arith, le)))
  where
    row : (o : Option Cell) → find root (path_of all k) ≡ o → number_of o ≡ Some k → one (r k (row_at p o).state) ≤ passing_at t k root
    row None e n = absurd cc
    row (Some c) e n =
        let at : c.number ≡ k = cc in
        omega (arith, ap (λ x. one (r x (plain_state c.standing.state))) (sym at), ap one (agree c), found_passes t root (path_of all k) c k e at)

both : (t : Cell → Bool) (es : List Entry) → passing t es + passing (λ c. not (t c)) es ≡ length es
both t [] = refl
both t (e ∷ es) = grind (arith, both t es)

both_rows : (r : ℕ → spec.State → Bool) (k : ℕ) (rows : List Row) → passing_rows r k rows + passing_rows (λ i s. not (r i s)) k rows ≡ length rows
both_rows r k [] = refl
both_rows r k (row ∷ rows) = grind (arith, both_rows r (suc k) rows)

opens_are : (es : List Entry) → open_of es ≡ passing (λ c. not (has_ended c.standing.state)) es
opens_are [] = refl
opens_are (e ∷ es) = grind (arith, opens_are es)

open_rows_are : (k : ℕ) (rows : List Row) → open_rows rows ≡ passing_rows (λ i s. not (is_ended s)) k rows
open_rows_are k [] = refl
open_rows_are k (r ∷ rs) = grind (arith, open_rows_are (suc k) rs)

pub rows_length : (all : List NodePlace) (root : List Entry) (k : ℕ) (ps : List NodePlace) → length (rows_from all root k ps) ≡ length ps
rows_length all root k [] = refl
rows_length all root k (p ∷ ps) = omega (arith, rows_length all root (suc k) ps)

-- the rows of a tree as callers see it
pub rows_count : (rules : Rules) (all : List NodePlace) (root : List Entry) (now : Tree) → record { rules = rules; rows = rows_of all root } ≡ now
    → length now.rows ≡ length all
rows_count rules all root now v = sym (ap (λ (t : Tree). length t.rows) v) ∙ rows_length all root 0 all

-- as many branches pass as rows
pub passing_agree : (t : Cell → Bool) (r : ℕ → spec.State → Bool) (all : List NodePlace) (root : List Entry) → Agree t r → IsPlaced all root → length root ≡ length all
    → passing t root ≡ passing_rows r 0 (rows_of all root)
passing_agree t r all root agree placed sized =
    omega (
      arith,
      sized,
      both t root,
      both_rows r 0 (rows_of all root),
      rows_length all root 0 all,
      rows_le t r all root 0 all agree placed (omega arith),
      from_le t 0 (length all) root,
      rows_le (λ c. not (t c)) (λ i s. not (r i s)) all root 0 all (λ c. ap not (agree c)) placed (omega arith),
      from_le (λ c. not (t c)) 0 (length all) root,
    )

pub counts_agree : (all : List NodePlace) (root : List Entry) → IsPlaced all root → length root ≡ length all → open_of root ≡ open_rows (rows_of all root)
counts_agree all root placed sized = grind (arith, common_steps, opens_are root, open_rows_are 0 (rows_of all root), passing_agree, ended_plain)
