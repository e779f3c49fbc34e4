-- What is kept of some branches: the stored answer that none ranks before, and how many have not ended (RFC 3261
-- section 16.7 steps 5 and 6).
-- Here: what no public contract reaches.
use Rattle.std.specs.Prelude.{◌≡◌, ◌⊎◌, List, length, Option, Some, None}
use Rattle.fork_model.specs.Rank.{RanksBefore}
use Rattle.fork_tree.specs.declared.summary.RankedAnswer.{RankedAnswer}
use Rattle.fork_tree.specs.Rows.{Entry}
use Rattle.fork_tree.specs.inner.Rows.{joined}
use Rattle.fork_tree.specs.Summary.{HasKept, open_of}

-- of these branches, each with those below it, as many have not ended as they are
abbrev pub AreWaiting : List (List Entry) → Type 0
AreWaiting nodes = open_of (joined 0 nodes) ≡ length nodes

-- the newer one takes the place of the one kept only where it ranks before it
abbrev pub Better : Option RankedAnswer → Option RankedAnswer → Option RankedAnswer → Type 0
Better kept None best = best ≡ kept
Better None (Some stored) best = best ≡ Some stored
Better (Some kept) (Some stored) best =
    ((best ≡ Some stored) × RanksBefore stored.rank kept.rank)
    ⊎ ((best ≡ Some kept) × (RanksBefore stored.rank kept.rank → ⊥))

-- what is stored after a change: what was, and this answer
pub record Gains (old new : List Entry) (answer : Option RankedAnswer) : Type 0 where
  pub only : (k : RankedAnswer) → HasKept new k → HasKept old k ⊎ (answer ≡ Some k)
  pub all : (k : RankedAnswer) → HasKept old k → HasKept new k
  pub own : (k : RankedAnswer) → answer ≡ Some k → HasKept new k
