use Rattle.std.proofs.Common.{◌≡◌, IfOk, Bool, subst}
use Rattle.bindings.specs.Bindings.{Register}
use Rattle.bindings.specs.Seen.{register_of as seen_request}
use Rattle.registrar.specs.Outcome.{is_malformed, outcome_with}
use Rattle.registrar.specs.SeenContacts.{seen_contacts}
use Rattle.registrar.specs.SeenOutcome.{seen_outcome}
use Rattle.registrar.proofs.asking.Registration.outcome_of.Goals as goal

pub returns : goal.returns
returns g c =
    let malformed = subst (λ (m : Bool). IfOk c.outcome_with.result (λ outcome. seen_outcome outcome ≡ outcome_with (seen_request c.request_with-request.result) m c.args.others c.args.most c.args.bindings.now)) c.is_malformed.ensures c.outcome_with.ensures in
    subst (λ (r : Register). IfOk c.outcome_with.result (λ outcome. seen_outcome outcome ≡ outcome_with r (is_malformed (seen_contacts c.args.self.now.contacts)) c.args.others c.args.most c.args.bindings.now)) c.request_with-request.ensures malformed
