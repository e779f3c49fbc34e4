use Rattle.fork_tree.proofs.Common.{◌+◌, ◌*◌, length}
use Rattle.fork_tree.proofs.node.+end.Given as goal

abbrev pub decreases-NodeGroup::end : goal.decreases-NodeGroup::end
decreases-NodeGroup::end g l = 2 * length l.path.now

abbrev pub decreases-Level::end : goal.decreases-Level::end
decreases-Level::end g l = 2 * length l.path.now

abbrev pub decreases-Node::end : goal.decreases-Node::end
decreases-Node::end g l = 2 * length l.path.now + 1
