use Rattle.std.proofs.Common.{arith}
use Rattle.std.proofs.lemmas.Grind.{common_steps}
use Rattle.fork_call.proofs.LeastDue.{last_due}
use Rattle.fork_call.proofs.action.Action.on_row.Goals as goal

pub returns : goal.returns
returns g c = grind (arith, common_steps, last_due)
