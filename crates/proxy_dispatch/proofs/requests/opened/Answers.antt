use Rattle.proxy_dispatch.proofs.Common.{IfOk-weaker}
use Rattle.proxy_dispatch.specs.SeenDecision.{seen_decision}
use Rattle.proxy_dispatch.proofs.requests.opened.Goals as goal

pub returns : goal.returns
returns g c =
    IfOk-weaker c.decided.result _ _
    (λ outcome h. (h.0, h.1, (seen_decision c.args.setup.now c.in_ok-decision.decision, c.in_ok-decision.ensures, h.2)))
    c.decided.ensures
