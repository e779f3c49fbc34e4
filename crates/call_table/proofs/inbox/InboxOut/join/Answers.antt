use Rattle.call_table.proofs.InOrder.{merges, totals}
use Rattle.call_table.proofs.inbox.InboxOut.join.Goals as goal

pub absorb-requires-clause-rule : goal.absorb-requires-clause-rule
absorb-requires-clause-rule g c = merges _ _ _ _ c.other.invariant.1 c.self.invariant.1

pub learn_as-requires-clause-rule : goal.learn_as-requires-clause-rule
learn_as-requires-clause-rule g c = totals _ _
