use Rattle.fork_tree.proofs.Common.{arith, common_steps}
use Rattle.fork_tree.proofs.tree.ForkTree.start_ready.Goals as goal

pub overflow_add-first : goal.overflow_add-first
overflow_add-first g c = grind (arith, common_steps)
