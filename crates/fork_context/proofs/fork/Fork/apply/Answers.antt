use Rattle.fork_context.proofs.Common.{arith, length-state, common_steps}
use Rattle.fork_context.proofs.Applied.{has_room}
use Rattle.fork_context.proofs.fork.Fork.apply.Goals as goal

pub returns-in_ok-numbers-in-Rings-clause-room : goal.returns-in_ok-numbers-in-Rings-clause-room
returns-in_ok-numbers-in-Rings-clause-room g c = grind (arith, common_steps, has_room, length-state)

pub returns-in_ok-numbers-in-GetsCancel-clause-room : goal.returns-in_ok-numbers-in-GetsCancel-clause-room
returns-in_ok-numbers-in-GetsCancel-clause-room g c = grind (arith, common_steps, has_room, length-state)
