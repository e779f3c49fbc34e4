use Rattle.proxy_routing.proofs.laws.OwnCredentials.{body_left, hops_left, one_left, others_left, start_left}
use Rattle.proxy_routing.proofs.law.taking_credentials_keeps_the_rest.Goals as goal

pub returns-clause-one : goal.returns-clause-one
returns-clause-one c = one_left

pub returns-clause-start : goal.returns-clause-start
returns-clause-start c = start_left

pub returns-clause-body : goal.returns-clause-body
returns-clause-body c = body_left

pub returns-clause-others : goal.returns-clause-others
returns-clause-others c = others_left

pub returns-clause-hops : goal.returns-clause-hops
returns-clause-hops c = hops_left
