-- The prover finds these answers by itself: they stand here so that it need not search twice where an edit strikes the function.
use Rattle.sip_via.proofs.Common.{rules}
use Rattle.sip_via.proofs.values.ViaValues.next.Goals as goal

pub returns-clause-some : goal.returns-clause-some
returns-clause-some c = search rules
