use Rattle.proxy_routing.proofs.Common.{MessageText, hops_name}
use Rattle.sip_text.specs.Name.{first_value, values_of}
use Rattle.proxy_routing.proofs.laws.OwnRoutes.{first_left, kept, routes_left}
use Rattle.proxy_routing.proofs.law.taking_own_routes_keeps_the_rest.Goals as goal

pub returns-clause-start : goal.returns-clause-start
returns-clause-start c = kept (λ (m : MessageText). m.start) c.stripping_keeps_the_rest.ensures.start

pub returns-clause-body : goal.returns-clause-body
returns-clause-body c = kept (λ (m : MessageText). m.body) c.stripping_keeps_the_rest.ensures.body

pub returns-clause-others : goal.returns-clause-others
returns-clause-others c = λ setup m name differ. kept (λ (x : MessageText). values_of name x.headers) (λ x own. c.stripping_keeps_the_rest.ensures.others x own name differ) setup m

pub returns-clause-hops : goal.returns-clause-hops
returns-clause-hops c = kept (λ (m : MessageText). first_value hops_name m.headers) c.stripping_keeps_the_rest.ensures.hops

pub returns-clause-routes : goal.returns-clause-routes
returns-clause-routes c = routes_left c.stripping_keeps_the_rest.ensures.routes

pub returns-clause-first : goal.returns-clause-first
returns-clause-first c = first_left c.stripping_keeps_the_rest.ensures.routes
