-- The prover finds these answers by itself: they stand here so that it need not search twice where an edit strikes the function.
use Rattle.std.proofs.Common.{rules}
use Rattle.call_caller.proofs.response_event.challenges_by.Goals as goal

pub returns-in_ok-clone : goal.returns-in_ok-clone
returns-in_ok-clone c = search rules
