use Rattle.std.proofs.Common.{Option, ap, ◌∙◌}
use Rattle.sip_uri.specs.Uri.{Uri}
use Rattle.authentication.specs.SeenStanding.{seen_standing}
use Rattle.authentication.specs.Decision.{claimed}
use Rattle.authentication.specs.SeenDecision.{seen_admission}
use Rattle.authentication.proofs.decision.of_domain.Goals as goal

pub returns : goal.returns
returns g c =
    let standing = seen_standing c.in_ok-standing.standing in
    (standing, c.in_ok-standing.ensures, c.in_ok-decision.ensures ∙ ap (λ (u : Option Uri). claimed (seen_admission c.args.admission.now) c.args.arrival u standing) c.requires)
