-- What is kept of some branches: the stored answer that none ranks before, and how many have not ended (RFC 3261
-- section 16.7 steps 5 and 6).
use Rattle.std.specs.Prelude.{◌≡◌, ◌⊎◌, ◌+◌, ℕ, false, List, [], ◌∷◌, Option, Some, None, if◌then◌else◌}
use Rattle.fork_model.specs.Rank.{RanksBefore}
use Rattle.fork_tree.specs.declared.summary.BranchState.{BranchState}
use Rattle.fork_tree.specs.declared.summary.RankedAnswer.{RankedAnswer}
use Rattle.fork_tree.specs.declared.summary.BestRef.{BestRef}
use Rattle.fork_tree.specs.declared.summary.Summary.{Summary}
use Rattle.fork_tree.specs.declared.row.State.{State}
use Rattle.fork_tree.specs.States.{has_ended}
use Rattle.fork_tree.specs.Rows.{Entry, node_rows}

-- the answer is stored in one of the branches
abbrev pub HasKept : List Entry → RankedAnswer → Type 0
HasKept [] k = ⊥
HasKept (e ∷ es) k = (e.cell.standing.answer ≡ Some k) ⊎ HasKept es k

-- and no stored answer of theirs ranks before it
pub record IsFirstKept (rows : List Entry) (k : RankedAnswer) : Type 0 where
  pub stored : HasKept rows k
  pub first : (o : RankedAnswer) → HasKept rows o → RanksBefore o.rank k.rank → ⊥

abbrev pub IsKept : List Entry → Option RankedAnswer → Type 0
IsKept rows None = (o : RankedAnswer) → HasKept rows o → ⊥
IsKept rows (Some k) = IsFirstKept rows k

-- 1 where the branch has not ended
abbrev pub open_state : State → ℕ
open_state state = if has_ended state then 0 else 1

abbrev pub open_of : List Entry → ℕ
open_of [] = 0
open_of (e ∷ es) = open_state e.cell.standing.state + open_of es

pub record IsSummary (rows : List Entry) (t : Summary) : Type 0 where
  pub kept : IsKept rows t.kept
  pub open_count : t.open_count ≡ open_of rows

-- what holds of each node: a branch that has not ended stores nothing and has none below it
pub record IsNode (number q : ℕ) (standing : BranchState) (below : List Entry) (t : Summary) : Type 0 where
  pub tried : has_ended standing.state ≡ false → below ≡ []
  pub silent : has_ended standing.state ≡ false → standing.answer ≡ None
  pub summary : IsSummary (node_rows number q standing below) t

abbrev pub best_of : Option RankedAnswer → Option BestRef
best_of None = None
best_of (Some kept) = Some kept.best
