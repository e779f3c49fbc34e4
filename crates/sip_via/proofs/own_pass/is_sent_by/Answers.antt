-- The prover finds these answers by itself: they stand here so that it need not search twice where an edit strikes the function.
use Rattle.sip_via.proofs.Common.{rules}
use Rattle.sip_via.proofs.own_pass.is_sent_by.Goals as goal

pub returns-then-is_address : goal.returns-then-is_address
returns-then-is_address c = search rules
