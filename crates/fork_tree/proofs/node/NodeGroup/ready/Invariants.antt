use Rattle.fork_tree.proofs.Groups.{AreWaiting}
use Rattle.fork_tree.proofs.node.NodeGroup.ready.Given as goal

abbrev pub invariant-loop-i : goal.invariant-loop-i
invariant-loop-i g l = AreWaiting l.self-inside.nodes.items l.i
