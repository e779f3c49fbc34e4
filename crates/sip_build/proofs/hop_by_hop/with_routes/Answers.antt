use Rattle.sip_build.proofs.Common.{arith}
use Rattle.sip_build.proofs.Routes.{none-named}
use Rattle.sip_build.proofs.hop_by_hop.with_routes.Goals as goal

pub returns-then-is_none : goal.returns-then-is_none
returns-then-is_none g c = grind (arith, none-named)
