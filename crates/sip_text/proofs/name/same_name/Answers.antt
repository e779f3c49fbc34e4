-- The prover finds these answers by itself: they stand here so that it need not search twice where an edit strikes the function.
use Rattle.sip_text.proofs.Common.{rules}
use Rattle.sip_text.proofs.name.same_name.Goals as goal

pub returns : goal.returns
returns c = search rules
