use Rattle.sip_route.proofs.Common.{arith}
use Rattle.sip_tests.proofs.RouteLines.{third-good}
use Rattle.sip_tests.proofs.text.changes.put_route.Goals as goal

pub set_value-requires-clause-message : goal.set_value-requires-clause-message
set_value-requires-clause-message g = grind (arith, third-good)
