use Rattle.fork_tree.proofs.Common.{◌+◌, ◌*◌, length}
use Rattle.fork_tree.proofs.node.+set.Given as goal

abbrev pub decreases-NodeGroup::set : goal.decreases-NodeGroup::set
decreases-NodeGroup::set g l = 2 * length l.path.now

abbrev pub decreases-Level::set : goal.decreases-Level::set
decreases-Level::set g l = 2 * length l.path.now

abbrev pub decreases-Node::set : goal.decreases-Node::set
decreases-Node::set g l = 2 * length l.path.now + 1
