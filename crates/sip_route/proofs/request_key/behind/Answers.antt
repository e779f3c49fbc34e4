use Rattle.sip_route.proofs.Fronts.{found_behind, none_behind}
use Rattle.sip_route.proofs.request_key.behind.Goals as goal

pub returns-clause-found : goal.returns-clause-found
returns-clause-found c = found_behind c.args.front.now c.args.text.now c.strip_prefix.result c.strip_prefix.ensures.cases

pub returns-clause-none : goal.returns-clause-none
returns-clause-none c = none_behind c.args.front.now c.args.text.now c.strip_prefix.result c.strip_prefix.ensures.cases
