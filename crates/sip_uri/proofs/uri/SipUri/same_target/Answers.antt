-- The prover finds these answers by itself: they stand here so that it need not search twice where an edit strikes the function.
use Rattle.sip_uri.proofs.Common.{rules}
use Rattle.sip_uri.proofs.uri.SipUri.same_target.Goals as goal

pub returns : goal.returns
returns g c = search rules
