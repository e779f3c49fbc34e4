-- The prover finds these answers by itself: they stand here so that it need not search twice where an edit strikes the function.
use Rattle.sip_via.proofs.Common.{rules}
use Rattle.sip_via.proofs.values.top_via.Goals as goal

pub returns-in-Some : goal.returns-in-Some
returns-in-Some c = search rules
