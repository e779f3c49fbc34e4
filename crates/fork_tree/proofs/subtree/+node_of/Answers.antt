use Rattle.fork_tree.proofs.Common.{arith}
use Rattle.fork_tree.proofs.Traces.{path_below}
use Rattle.fork_tree.proofs.Unders.{under_twice}
use Rattle.fork_tree.proofs.Below.{further_there}
use Rattle.fork_tree.proofs.subtree.+node_of.Goals as goal

pub child-requires : goal.child-requires
child-requires g t c = grind (arith, further_there)

pub returns-in-Some : goal.returns-in-Some
returns-in-Some g t c = grind (arith, under_twice, path_below)
