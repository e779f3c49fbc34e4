use Rattle.std.proofs.Common.{Bool, subst}
use Rattle.authentication.specs.Decision.{IsOfRequest}
use Rattle.authentication.specs.SeenDecision.{seen_admission, seen_decision}
use Rattle.authentication.proofs.decision.decision_of.Goals as goal

pub returns : goal.returns
returns g c =
    subst (λ (registers : Bool). IsOfRequest registers (seen_admission c.args.admission.now) c.args.arrival c.args.message.now (seen_decision c.in_ok-decision.decision))
    c.in_ok-registers.ensures c.in_ok-decision.ensures
