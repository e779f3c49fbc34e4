-- The prover finds these answers by itself: they stand here so that it need not search twice where an edit strikes the function.
use Rattle.sip_uri.proofs.Common.{rules}
use Rattle.sip_uri.proofs.contact.cut_item.Goals as goal

pub returns-clause-value : goal.returns-clause-value
returns-clause-value c = search rules
