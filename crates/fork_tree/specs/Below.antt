-- A row and those below it: what is kept of them, and how many of them have not ended.
use Rattle.std.specs.Prelude.{◌≡◌, ◌<◌, ◌≤◌, ◌+◌, ℕ, zero, suc, ◌&&◌, ◌||◌, Bool, false, IsTrue, not, List, [], ◌∷◌, length, Option, Some, None, eqb, slice_get, if◌then◌else◌}
use Rattle.fork_model.specs.Table.{Row, Rules, is_ended}
use Rattle.fork_model.specs.Rank.{Score, Before}
use Rattle.fork_model.specs.Choice.{HasScore}
use Rattle.fork_tree.specs.declared.summary.RankedAnswer.{RankedAnswer}
use Rattle.fork_tree.specs.declared.summary.BestRef.{BestRef}
use Rattle.fork_tree.specs.Rows.{Entry}
use Rattle.fork_tree.specs.Summary.{IsKept, best_of, open_of}
use Rattle.fork_tree.specs.Tree.{Tree, score_of_ref}

-- ---- by number

abbrev pub parent_of : Option Row → Option ℕ
parent_of None = None
parent_of (Some row) = row.parent

abbrev pub from_parent : Option ℕ → (ℕ → Bool) → Bool
from_parent None test = false
from_parent (Some m) test = test m

-- whether a chain of at most so many parents leads from row m to row n
abbrev pub leads : (ℕ → Option ℕ) → ℕ → ℕ → ℕ → Bool
leads up n zero m = eqb m n
leads up n (suc steps) m = eqb m n || from_parent (up m) (leads up n steps)

-- row m is row n, or lies below it; parents are older, so no chain has more steps than the number says
abbrev pub lies_below : List Row → ℕ → ℕ → Bool
lies_below rows n m = leads (λ k. parent_of (slice_get rows k)) n m m

-- a row at or below n has this stored answer, and no stored answer there ranks before it
pub record IsFirstBelow (rules : Rules) (rows : List Row) (n m : ℕ) (score : Score) : Type 0 where
  pub below : IsTrue (lies_below rows n m)
  pub stored : HasScore rows m score
  pub first : (k : ℕ) (other : Score) → IsTrue (lies_below rows n k) → HasScore rows k other → Before rules other score → ⊥

abbrev pub NoneStoredBelow : List Row → ℕ → Type 0
NoneStoredBelow rows n = (m : ℕ) (score : Score) → IsTrue (lies_below rows n m) → HasScore rows m score → ⊥

-- of row n and those below it the stored answer that none of theirs ranks before; None where none is stored there
abbrev pub IsBestBelow : Rules → List Row → ℕ → Option BestRef → Type 0
IsBestBelow rules rows n None = NoneStoredBelow rows n
IsBestBelow rules rows n (Some b) = IsFirstBelow rules rows n b.no (score_of_ref b)

abbrev pub open_where : (ℕ → Bool) → ℕ → List Row → ℕ
open_where test k [] = 0
open_where test k (row ∷ rows) =
    (if test k && not (is_ended row.state) then 1 else 0) + open_where test (suc k) rows

-- how many of row n and those below it have not ended
abbrev pub open_below : List Row → ℕ → ℕ
open_below rows n = open_where (lies_below rows n) 0 rows

-- ---- in the tree

-- of these branches the stored answer that none of theirs ranks before
abbrev pub IsBestOf : List Entry → Option BestRef → Type 0
IsBestOf node b = (kept : Option RankedAnswer) × IsKept node kept × (best_of kept ≡ b)

-- what a node's best and its count say of the rows
pub record IsSubtree (t : Tree) (n : ℕ) (node : List Entry) : Type 0 where
  pub known : n < length t.rows
  pub best : (b : Option BestRef) → IsBestOf node b → IsBestBelow t.rules t.rows n b
  pub count : open_of node ≡ open_below t.rows n

-- the node of row n; None where there is no such row
abbrev pub IsNodeAt : Tree → ℕ → Option (List Entry) → Type 0
IsNodeAt t n None = length t.rows ≤ n
IsNodeAt t n (Some node) = IsSubtree t n node
