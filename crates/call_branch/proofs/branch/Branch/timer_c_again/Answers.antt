-- The prover finds these answers by itself: they stand here so that it need not search twice where an edit strikes the function.
use Rattle.std.proofs.Common.{rules}
use Rattle.call_branch.proofs.branch.Branch.timer_c_again.Goals as goal

pub returns-then-status-lt200 : goal.returns-then-status-lt200
returns-then-status-lt200 c = search rules
