use Rattle.fork_tree.proofs.Common.{arith}
use Rattle.fork_tree.proofs.Levels.{top_finds}
use Rattle.fork_tree.proofs.series.ready_on_way.Goals as goal

pub returns-in-None : goal.returns-in-None
returns-in-None g c = grind (arith, top_finds)
