-- A thread may be given a tree of branches. A branch reaches itself by the groups below it, so each type around it takes a step.
use denote.Param.Send.{IsSend, sendable}
use Rattle.std.proofs.Crossing.{crosses}
use Rattle.std.specs.contracts.alloc.Global.{the_row as heap_row}
use Rattle.std.specs.contracts.impls.GlobalAllocator.TheImpl.{ghosts}
use Rattle.fork_tree.proofs.node.Level.TheLaws.TheKnot as knot
use Rattle.fork_tree.specs.contracts.tree.ForkTree.{the_row as tree_row}

pub tree_send : IsSend (tree_row heap_row ghosts)
tree_send = search (crosses, knot.crosses, sendable) depth 60 fits 20000
