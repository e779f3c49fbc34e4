use Rattle.call_table.proofs.InOrder.{sends, nothing_learned}
use Rattle.call_table.proofs.inbox.InboxIn.give.Goals as goal

pub try_send_as-requires-clause-rule : goal.try_send_as-requires-clause-rule
try_send_as-requires-clause-rule g c = (sends _ _ _ _ c.self.invariant.1, nothing_learned _ _)
