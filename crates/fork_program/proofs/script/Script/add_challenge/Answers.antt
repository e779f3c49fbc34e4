use Rattle.fork_program.proofs.Common.{map_push, common_steps, arith}
use Rattle.fork_program.proofs.laws.LastAnswer.{change_added}
use Rattle.fork_program.proofs.script.Script.add_challenge.Goals as goal

pub returns-clause-ok : goal.returns-clause-ok
returns-clause-ok g c = grind (arith, common_steps, map_push, change_added)
