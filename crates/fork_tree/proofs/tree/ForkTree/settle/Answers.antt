use Rattle.fork_tree.proofs.Common.{arith}
use Rattle.fork_tree.proofs.Building.{stays}
use Rattle.fork_tree.proofs.Ways.{with_same}
use Rattle.fork_tree.proofs.tree.ForkTree.settle.Goals as goal

pub returns-then-not-is_waiting : goal.returns-then-not-is_waiting
returns-then-not-is_waiting g c = grind (arith, stays)

pub returns-in-Idle : goal.returns-in-Idle
returns-in-Idle g c = grind (arith, with_same)
