use Rattle.fork_context.proofs.Common.{rules}
use Rattle.fork_context.proofs.contacts.takes_none.Goals as goal

pub returns-then-closed : goal.returns-then-closed
returns-then-closed g c = search rules

pub returns-else-closed : goal.returns-else-closed
returns-else-closed g c = search rules
