use Rattle.std.proofs.Common.{ℕ, Option, sym, subst}
use Rattle.std.specs.Prelude.{IfOk, Vec}
use Rattle.std.specs.Option.{option_map}
use Rattle.authentication.specs.SeenRealm.{realm_if_any}
use Rattle.registrar.specs.Asking.{IsAskingFor}
use Rattle.registrar.specs.SeenAsking.{seen_asking}
use Rattle.registrar.proofs.asking.asking_for.Goals as goal

pub returns-in-Some : goal.returns-in-Some
returns-in-Some g c =
    let r = c.args.registrar.now in
    let P : Option (Vec ℕ _) → Type 0 =
    λ user. IfOk c.asked_for_user.result (λ asked. IsAskingFor r.domain (realm_if_any r.realm) r.expirations c.args.source c.args.message.now (option_map (λ u. u.items) user) (seen_asking asked)) in
    subst P (sym c.in-Some.is) c.asked_for_user.ensures
