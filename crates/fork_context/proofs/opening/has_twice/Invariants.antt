use Rattle.fork_context.proofs.KeySteps.{NoneTwice}
use Rattle.fork_context.proofs.opening.has_twice.Given as goal

abbrev pub invariant-loop-n : goal.invariant-loop-n
invariant-loop-n g l = NoneTwice l.targets l.n
