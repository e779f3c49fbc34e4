use Rattle.fork_tree.proofs.Common.{arith}
use Rattle.fork_tree.proofs.Starting.{still_waits, one_more, none_yet}
use Rattle.fork_tree.proofs.tree.ForkTree.start_group.Goals as goal

pub loop-n-init : goal.loop-n-init
loop-n-init g c = record { begun = omega arith; tried = none_yet c.args.self.now c.args.first }

pub start-requires : goal.start-requires
start-requires g c = grind (arith, still_waits)

pub loop-n-preserved : goal.loop-n-preserved
loop-n-preserved g c = grind (arith, one_more)
