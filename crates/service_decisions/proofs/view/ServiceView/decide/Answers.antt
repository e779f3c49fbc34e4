use Rattle.std.proofs.Common.{◌∙◌, Option, ap}
use Rattle.authentication.specs.Realm.{Realm}
use Rattle.authentication.specs.SeenDecision.{seen_admission, seen_decision}
use Rattle.service_decisions.specs.SeenServing.{serving_of}
use Rattle.service_decisions.specs.Served.{admission_of, arrival_of}
use Rattle.service_decisions.specs.Serving.{realm_at}
use Rattle.service_decisions.proofs.Parts.{decided_so, lent_so}
use Rattle.service_decisions.proofs.view.ServiceView.decide.Goals as goal

pub returns : goal.returns
returns g c =
    let serving = serving_of c.args.self.now in
    let m = c.args.request.now in
    let lent = lent_so c.realm-realm.result c.as_ref.result (realm_at serving) c.as_ref.ensures.value c.realm-realm.ensures in
    let domain = c.admission-admission.ensures.0 in
    let held = c.in_ok-arrival.ensures.0 in
    let admits = c.admission-admission.ensures.2 ∙ ap (λ (r : Option Realm). record (admission_of serving domain) { realm = r }) lent in
    record {
      domain = domain;
      held = held;
      by = seen_decision c.in_ok-by.by;
      domain_is = c.admission-admission.ensures.1;
      by_is = decided_so (admission_of serving domain) (seen_admission c.admission-admission.result) (arrival_of serving c.args.setup.now m c.args.source held) c.in_ok-arrival.arrival m (seen_decision c.in_ok-by.by) admits c.in_ok-arrival.ensures.1 c.in_ok-by.ensures;
      decided = c.in_ok-decided.ensures;
    }
