use Rattle.fork_program.proofs.Common.{common_steps, arith}
use Rattle.fork_program.proofs.Rows.{listed_yes, listed_no}
use Rattle.fork_program.proofs.print.tried.Goals as goal
use Rattle.fork_program.proofs.print.tried.Goals.{then-is_tried+in_ok-push, else-is_tried}

pub loop-n-preserved : goal.loop-n-preserved
loop-n-preserved g c = grind (arith, common_steps, listed_yes, listed_no)
