-- The prover finds these answers by itself: they stand here so that it need not search twice where an edit strikes the function.
use Rattle.std.proofs.Common.{rules}
use Rattle.sip_route.proofs.header_values.first_value.Goals as goal

pub returns : goal.returns
returns c = search rules
