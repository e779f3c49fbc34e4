use Rattle.std.proofs.Common.{◌≡◌, Bool, Option, subst, ap, ◌∙◌}
use Rattle.std.specs.Prelude.{codes}
use Rattle.sip_uri.specs.Uri.{Uri}
use Rattle.authentication.specs.Party.{party_uri, uri_in}
use Rattle.authentication.specs.Decision.{IsOfSender}
use Rattle.authentication.specs.SeenDecision.{seen_admission, seen_decision}
use Rattle.authentication.specs.Sender.{claims_domain}
use Rattle.authentication.proofs.decision.of_stranger.Goals as goal

pub of_sender-requires : goal.of_sender-requires
of_sender-requires g c = c.in_ok-from.ensures ∙ ap party_uri c.first_value.ensures

pub returns : goal.returns
returns g c =
    let from : c.in_ok-from.from ≡ uri_in (codes "from") c.args.message.now = c.in_ok-from.ensures ∙ ap party_uri c.first_value.ensures in
    let claims = c.claims_domain-claims.ensures ∙ ap (λ (u : Option Uri). claims_domain c.args.admission.now.domain u) from in
    subst (λ (b : Bool). IsOfSender b (seen_admission c.args.admission.now) c.args.arrival c.args.message.now (seen_decision c.in_ok-decision.decision)) claims c.in_ok-decision.ensures
