-- One branch that has not ended comes into another standing.
-- Here: what no public contract reaches.
use Rattle.std.specs.Prelude.{◌≡◌, ◌≤◌, ◌+◌, ℕ, true, IsTrue, List, ◌∷◌, ◌++◌, length, None}
use Rattle.fork_model.specs.Table.{most_targets}
use Rattle.fork_tree.specs.declared.summary.BranchState.{BranchState}
use Rattle.fork_tree.specs.States.{has_ended}
use Rattle.fork_tree.specs.Rows.{Entry, find}
use Rattle.fork_tree.specs.inner.Rows.{open_at, with_branch}
use Rattle.fork_tree.specs.Summary.{IsKept, open_of}
use Rattle.fork_tree.specs.inner.Summary.{Gains}

-- the branch at this path, which has not ended, may come into this standing, in which it has, with these below it, of
-- which so many have not ended
pub record MayEnd (old : List Entry) (path : List ℕ) (standing : BranchState) (below : List Entry) (count : ℕ) : Type 0 where
  pub there : IsTrue (open_at old path)
  pub ended : has_ended standing.state ≡ true
  pub fresh : IsKept below None
  pub opens : count ≡ open_of below
  pub few : length old + length below ≤ most_targets

-- the branch at this path, which had none below it, is in this standing, with these below it; so many have not ended in
-- its place
pub record Changes (old new : List Entry) (path : List ℕ) (standing : BranchState) (below : List Entry) (count : ℕ) : Type 0 where
  pub branch : new ≡ with_branch old path standing below
  pub sized : length new ≡ length old + length below
  pub counted : open_of new + 1 ≡ open_of old + count
  pub gained : Gains old new standing.answer
  pub alone : (k : ℕ) (rest : List ℕ) → find old (path ++ k ∷ rest) ≡ None
