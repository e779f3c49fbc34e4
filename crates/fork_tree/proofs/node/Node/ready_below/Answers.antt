use Rattle.fork_tree.proofs.Groups.{found_below}
use Rattle.fork_tree.proofs.node.Node.ready_below.Goals as goal

pub returns : goal.returns
returns g c = found_below _ _ _ _ _ c.ready.result c.self.invariant.tried c.self.view_is c.ready.ensures
