use Rattle.sip_route.proofs.Common.{arith}
use Rattle.sip_tests.proofs.RouteLines.{gone-good}
use Rattle.sip_tests.proofs.text.changes.remove_route.Goals as goal

pub remove_header-requires-clause-message : goal.remove_header-requires-clause-message
remove_header-requires-clause-message g = grind (arith, gone-good)
