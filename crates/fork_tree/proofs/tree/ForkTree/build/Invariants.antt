use Rattle.fork_tree.proofs.Runs.{IsSettled}
use Rattle.fork_tree.proofs.tree.ForkTree.build.Given as goal

abbrev pub invariant-loop-i : goal.invariant-loop-i
invariant-loop-i g l = IsSettled l.fn.rules l.rows l.i l.tree
