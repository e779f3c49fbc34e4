use Rattle.fork_context.proofs.Common.{arith}
use Rattle.fork_context.proofs.contacts.take_contact.Goals as goal

pub take_fresh-requires : goal.take_fresh-requires
take_fresh-requires g c = grind arith
