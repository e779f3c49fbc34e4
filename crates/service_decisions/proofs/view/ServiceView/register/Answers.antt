use Rattle.std.proofs.Common.{◌∙◌, ap}
use Rattle.registrar.specs.SeenAsking.{seen_asking}
use Rattle.authentication.specs.SeenRealm.{realm_if_any}
use Rattle.service_decisions.specs.Registered.{asked_of, source_of}
use Rattle.service_decisions.specs.SeenServing.{serving_of}
use Rattle.service_decisions.specs.Serving.{realm_at}
use Rattle.service_decisions.proofs.Parts.{asked_so, lent_so}
use Rattle.service_decisions.proofs.view.ServiceView.register.Goals as goal

pub returns : goal.returns
returns g c =
    let serving = serving_of c.args.self.now in
    let lent = lent_so c.realm-realm.result c.as_ref.result (realm_at serving) c.as_ref.ensures.value c.realm-realm.ensures in
    record {
      domain = c.domain.result;
      asking = seen_asking c.in_ok-asking.asking;
      domain_is = c.domain.ensures;
      asking_is = asked_so c.domain.result (realm_at serving) (realm_if_any c.as_ref.result) (asked_of serving.settings.expirations) c.asked_of.result (source_of serving c.args.source) c.source-from.result c.args.request.now (seen_asking c.in_ok-asking.asking) lent (c.asked_of.ensures ∙ ap asked_of c.expirations.ensures) c.source-from.ensures c.in_ok-asking.ensures;
      by = c.in_ok-registered.ensures;
    }
