use Rattle.std.specs.Option.{option_copied}
use Rattle.proxy_routing.proofs.Common.{hops_name}
use Rattle.proxy_routing.proofs.Admitting.{not_via, prepared_so, same_start, still_passes}
use Rattle.proxy_routing.proofs.admission.prepared.Goals as goal

pub returns-clause-prepared : goal.returns-clause-prepared
returns-clause-prepared g c =
    prepared_so c.args.setup.now c.args.message c.in_ok-marked.marked c.without_own_routes-routed.result c.in_ok-request.request c.args.source
    (option_copied c.realm.result) c.in_ok-marked.ensures.marked c.without_own_routes-routed.ensures c.realm.ensures c.in_ok-request.ensures

pub returns-clause-start : goal.returns-clause-start
returns-clause-start g c =
    same_start c.args.message c.in_ok-marked.marked c.without_own_routes-routed.result c.in_ok-request.request c.args.setup.now c.without_own_routes-routed.ensures
    (c.taking_own_routes_keeps_the_rest.ensures.start c.args.setup.now c.in_ok-marked.marked)
    (c.marking_keeps_the_rest.ensures.start c.args.message c.in_ok-marked.marked c.args.source c.in_ok-marked.ensures.marked)
    (c.taking_credentials_keeps_the_rest.ensures.start (option_copied c.realm.result) c.without_own_routes-routed.result c.in_ok-request.request c.in_ok-request.ensures)

pub returns-clause-hops : goal.returns-clause-hops
returns-clause-hops g c =
    still_passes c.args.message c.in_ok-marked.marked c.without_own_routes-routed.result c.in_ok-request.request c.args.setup.now c.in_ok-marked.ensures.hops
    (c.marking_keeps_the_rest.ensures.others c.args.message c.in_ok-marked.marked c.args.source c.in_ok-marked.ensures.marked hops_name not_via)
    (c.taking_own_routes_keeps_the_rest.ensures.hops c.args.setup.now c.in_ok-marked.marked) c.without_own_routes-routed.ensures
    (c.taking_credentials_keeps_the_rest.ensures.hops (option_copied c.realm.result) c.without_own_routes-routed.result c.in_ok-request.request c.in_ok-request.ensures)
