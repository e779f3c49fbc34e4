use Rattle.sip_route.proofs.RouteLaws.{hops_stay, others_stay, routes_left}
use Rattle.sip_route.proofs.law.stripping_keeps_the_rest.Goals as goal

pub returns-clause-others : goal.returns-clause-others
returns-clause-others c = others_stay

pub returns-clause-hops : goal.returns-clause-hops
returns-clause-hops c = hops_stay

pub returns-clause-routes : goal.returns-clause-routes
returns-clause-routes c = routes_left
