use Rattle.fork_tree.proofs.Groups.{AreOver}
use Rattle.fork_tree.proofs.node.Level.ready.Given as goal

abbrev pub invariant-loop-i : goal.invariant-loop-i
invariant-loop-i g l = AreOver l.self l.i
