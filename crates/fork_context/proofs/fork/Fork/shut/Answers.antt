use Rattle.fork_context.proofs.Common.{common_steps, arith}
use Rattle.fork_context.proofs.ClosingRows.{closed_in_two}
use Rattle.fork_context.proofs.fork.Fork.shut.Goals as goal

pub returns-clause-rows : goal.returns-clause-rows
returns-clause-rows g c = grind (arith, common_steps, closed_in_two)
