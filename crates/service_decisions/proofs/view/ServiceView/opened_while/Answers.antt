use Rattle.std.proofs.Common.{◌∙◌}
use Rattle.proxy_dispatch.specs.SeenDecision.{seen_decision}
use Rattle.service_decisions.specs.SeenPlace.{seen_place}
use Rattle.service_decisions.specs.SeenServing.{serving_of}
use Rattle.service_decisions.proofs.Opened.{opened_so}
use Rattle.service_decisions.proofs.view.ServiceView.opened_while.Goals as goal

pub returns : goal.returns
returns g c =
    opened_so (serving_of c.args.self.now) c.args.opening.now.setup.now c.args.opening.now.rule c.args.opening.now.request.now c.args.opening.now.source (seen_place c.args.opening.now.place.now) c.args.held.now
    c.gateways.result.now c.by_gateways-by_gateways.result c.deref.result.now c.token.result (seen_decision c.args.opening.now.setup.now c.in_ok-decision.decision)
    c.gateways.ensures c.by_gateways-by_gateways.ensures (c.deref.ensures.value ∙ c.in_ok-contacts.ensures) c.token.ensures c.in_ok-decision.ensures
