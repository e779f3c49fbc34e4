use Rattle.fork_tree.proofs.Common.{arith}
use Rattle.fork_tree.proofs.tree.ForkTree.count.Goals as goal
use Rattle.fork_tree.proofs.Counts.{rows_count}

pub returns : goal.returns
returns g c = omega (arith, c.len.ensures, rows_count _ c.self.inside.places.items c.self.inside.root _ c.self.view_is)
