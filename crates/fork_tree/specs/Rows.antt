-- The branches of a tree in preorder, each with its path from the top: group, place, group, place ..
use Rattle.std.specs.Prelude.{ℕ, ◌&&◌, Bool, true, false, List, [], ◌∷◌, Option, Some, None, eqb, if◌then◌else◌}
use Rattle.fork_tree.specs.declared.summary.BranchState.{BranchState}
use Rattle.fork_tree.specs.declared.row.State.{State}

pub record Cell : Type 0 where
  pub number : ℕ
  pub q : ℕ
  pub standing : BranchState

pub record Entry : Type 0 where
  pub path : List ℕ
  pub cell : Cell

abbrev pub same : List ℕ → List ℕ → Bool
same [] [] = true
same [] (y ∷ ys) = false
same (x ∷ xs) [] = false
same (x ∷ xs) (y ∷ ys) = eqb x y && same xs ys

-- what stands at a path
abbrev pub find : List Entry → List ℕ → Option Cell
find [] path = None
find (e ∷ es) path = if same e.path path then Some e.cell else find es path

-- the standing of a branch without a stored answer
abbrev pub unanswered : State → BranchState
unanswered state = record { state = state; answer = None }

-- a branch with these below it
abbrev pub node_rows : ℕ → ℕ → BranchState → List Entry → List Entry
node_rows number q standing below =
    record { path = []; cell = record { number = number; q = q; standing = standing } } ∷ below
