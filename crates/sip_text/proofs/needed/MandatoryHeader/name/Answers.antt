-- The prover finds these answers by itself: they stand here so that it need not search twice where an edit strikes the function.
use Rattle.sip_text.proofs.Common.{rules}
use Rattle.sip_text.proofs.needed.MandatoryHeader.name.Goals as goal

pub returns-in-To : goal.returns-in-To
returns-in-To c = search rules
