use Rattle.std.proofs.Common.{◌≤◌}
use Rattle.proxy_threads.proofs.carrying.carry_from.Given as goal

abbrev pub invariant-loop : goal.invariant-loop
invariant-loop g l = goal.F-IsAlwaysCallable g l.carry × (l.fn.from ≤ l.next)
