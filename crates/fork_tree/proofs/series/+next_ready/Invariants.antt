use Rattle.std.specs.Prelude.{length}
use Rattle.fork_tree.proofs.series.+next_ready.Given as goal

abbrev pub decreases-next_ready : goal.decreases-next_ready
decreases-next_ready g l = length l.recent.now.items
