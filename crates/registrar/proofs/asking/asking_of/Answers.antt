use Rattle.std.proofs.Common.{Bool, subst}
use Rattle.authentication.specs.SeenRealm.{realm_if_any}
use Rattle.registrar.specs.Asking.{IsAskingIf}
use Rattle.registrar.specs.SeenAsking.{seen_asking}
use Rattle.registrar.proofs.asking.asking_of.Goals as goal

pub returns : goal.returns
returns g c =
    let r = c.args.registrar.now in
    subst (λ (b : Bool). IsAskingIf b r.domain (realm_if_any r.realm) r.expirations c.args.source c.args.message.now (seen_asking c.in_ok-asked.asked)) c.asks_extension-extension.ensures c.in_ok-asked.ensures
