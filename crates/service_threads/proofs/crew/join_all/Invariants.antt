use Rattle.std.proofs.Common.{IfErr}
use Rattle.service_threads.specs.Faults.{IsSystemFault}
use Rattle.service_threads.proofs.crew.join_all.Given as goal

abbrev pub invariant-loop-worker : goal.invariant-loop-worker
invariant-loop-worker g l = IfErr l.all IsSystemFault
