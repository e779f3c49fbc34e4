use Rattle.fork_tree.proofs.Trees.{idle_unended}
use Rattle.fork_tree.proofs.tree.ForkTree.start.Goals as goal

pub set-requires-clause-there : goal.set-requires-clause-there
set-requires-clause-there g c = idle_unended _ c.requires
