use Rattle.std.proofs.Common.{◌≡◌}
use Rattle.engine_tests.proofs.inbox.give_six.Given as goal

abbrev pub invariant-loop-number : goal.invariant-loop-number
invariant-loop-number g l = l.giving.queue ≡ l.fn.giving.queue
