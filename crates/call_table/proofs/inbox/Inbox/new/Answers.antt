use Rattle.std.proofs.Common.{rules}
use Rattle.call_table.proofs.InOrder.{begins, forks}
use Rattle.call_table.proofs.inbox.Inbox.new.Goals as goal

pub bounded_with-requires-clause-rule : goal.bounded_with-requires-clause-rule
bounded_with-requires-clause-rule g c = begins

pub another-receiving-requires-clause-rule : goal.another-receiving-requires-clause-rule
another-receiving-requires-clause-rule g c = forks _ _ (search rules) (search rules)
