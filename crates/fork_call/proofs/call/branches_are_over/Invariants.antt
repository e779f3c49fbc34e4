use Rattle.fork_call.specs.inner.Ending.{AreOverBelow}
use Rattle.fork_call.proofs.call.branches_are_over.Given as goal

-- those before this one have ended
abbrev pub invariant-loop-n : goal.invariant-loop-n
invariant-loop-n g l = AreOverBelow l.state l.n
