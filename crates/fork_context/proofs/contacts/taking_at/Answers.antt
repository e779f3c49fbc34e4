use Rattle.fork_context.proofs.Common.{common_steps, arith}
use Rattle.fork_context.proofs.PlainContacts.{few_taken}
use Rattle.fork_context.proofs.contacts.taking_at.Goals as goal

pub returns-else-takes_none-clause-few : goal.returns-else-takes_none-clause-few
returns-else-takes_none-clause-few g c = grind (arith, common_steps, few_taken)
