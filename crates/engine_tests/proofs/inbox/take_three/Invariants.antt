use Rattle.std.proofs.Common.{◌≡◌}
use Rattle.engine_tests.proofs.inbox.take_three.Given as goal

abbrev pub invariant-loop : goal.invariant-loop
invariant-loop g l = l.receiving.queue ≡ l.fn.receiving.queue
