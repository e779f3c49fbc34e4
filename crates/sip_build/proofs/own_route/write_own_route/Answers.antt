use Rattle.sip_build.proofs.OwnRoutes.{own_route-good}
use Rattle.sip_build.proofs.own_route.write_own_route.Goals as goal

pub returns-clause-good : goal.returns-clause-good
returns-clause-good g c = own_route-good c.args.own c.fact_own.ensures
