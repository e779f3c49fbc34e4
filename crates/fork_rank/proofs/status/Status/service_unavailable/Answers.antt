-- The prover finds these answers by itself: they stand here so that it need not search twice where an edit strikes the function.
use Rattle.fork_rank.proofs.Common.{rules}
use Rattle.fork_rank.proofs.status.Status.service_unavailable.Goals as goal

pub returns : goal.returns
returns c = search rules
