use Rattle.call_table.proofs.InOrder.{gets, totals}
use Rattle.call_table.proofs.inbox.InboxOut.receive.Goals as goal

pub try_recv_as-requires-clause-rule : goal.try_recv_as-requires-clause-rule
try_recv_as-requires-clause-rule g c = (gets _ _ c.self.invariant.1, totals _ _)
