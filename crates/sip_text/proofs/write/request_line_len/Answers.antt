-- The prover finds these answers by itself: they stand here so that it need not search twice where an edit strikes the function.
use Rattle.sip_text.proofs.Common.{arith, common_steps}
use Rattle.sip_text.proofs.write.request_line_len.Goals as goal

pub returns : goal.returns
returns c = grind (arith, common_steps)
