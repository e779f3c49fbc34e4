use Rattle.fork_program.proofs.Common.{arith, common_steps}
use Rattle.fork_program.proofs.Rows.{counted_yes, counted_no}
use Rattle.fork_program.proofs.print.branches_left.Goals as goal
use Rattle.fork_program.proofs.print.branches_left.Goals.{then-is_left, else-is_left}

pub loop-n-preserved : goal.loop-n-preserved
loop-n-preserved g c = grind (arith, common_steps, counted_yes, counted_no)
