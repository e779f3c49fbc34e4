-- The prover finds these answers by itself: they stand here so that it need not search twice where an edit strikes the function.
use Rattle.std.proofs.Common.{rules}
use Rattle.call_branch.proofs.opened.OpenedRequest.new.Goals as goal

pub invariant_of-result : goal.invariant_of-result
invariant_of-result c = search rules
