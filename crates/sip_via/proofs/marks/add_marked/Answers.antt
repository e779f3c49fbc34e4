-- The prover finds these answers by itself: they stand here so that it need not search twice where an edit strikes the function.
use Rattle.sip_via.proofs.Common.{arith, common_steps}
use Rattle.sip_via.proofs.marks.add_marked.Goals as goal

pub returns : goal.returns
returns c = grind (arith, common_steps)
