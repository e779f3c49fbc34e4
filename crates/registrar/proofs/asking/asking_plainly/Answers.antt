use Rattle.std.proofs.Common.{List, ℕ, Option, subst}
use Rattle.authentication.specs.SeenRealm.{realm_if_any}
use Rattle.registrar.specs.Asking.{IsAskingFor}
use Rattle.registrar.specs.SeenAsking.{seen_asking}
use Rattle.registrar.proofs.asking.asking_plainly.Goals as goal

pub returns : goal.returns
returns g c =
    let r = c.args.registrar.now in
    subst (λ (user : Option (List ℕ)). IsAskingFor r.domain (realm_if_any r.realm) r.expirations c.args.source c.args.message.now user (seen_asking c.in_ok-asked.asked)) c.in_ok-user.ensures c.in_ok-asked.ensures
