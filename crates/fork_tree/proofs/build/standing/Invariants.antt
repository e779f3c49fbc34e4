use Rattle.fork_tree.proofs.Common.{◌≡◌, ◌-◌, length, IsStanding}
use Rattle.fork_tree.proofs.build.standing.Given as goal

abbrev pub invariant-loop-tree : goal.invariant-loop-tree
invariant-loop-tree g l = record {
  standing : IsStanding l.tree.rows l.rows;
  rules : l.tree.rules ≡ l.fn.rules;
}

abbrev pub decreases-loop-tree : goal.decreases-loop-tree
decreases-loop-tree g l = length l.rows - length l.tree.rows
