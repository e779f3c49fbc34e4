use Rattle.sip_route.proofs.Common.{arith}
use Rattle.sip_tests.proofs.RouteLines.{second-good}
use Rattle.sip_tests.proofs.text.changes.keep_route_part.Goals as goal

pub keep_value_part-requires-clause-message : goal.keep_value_part-requires-clause-message
keep_value_part-requires-clause-message g = grind (arith, second-good)
