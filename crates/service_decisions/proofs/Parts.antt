-- What is decided of a request, and what a REGISTER asks for, by what its parts say.
use Rattle.std.proofs.Common.{◌≡◌, ◌∙◌, Option, ap, refl, subst}
use Rattle.std.specs.Prelude.{None, Some, option_map, option_copied}
use Rattle.std.specs.Borrow.{Bor}
use Rattle.sip_text.specs.Text.{MessageText}
use Rattle.authentication.specs.Decision.{Admission, Decision, IsDecision}
use Rattle.authentication.specs.Realm.{Realm}
use Rattle.authentication.specs.SeenRealm.{realm_if_any, seen_realm}
use Rattle.authentication.specs.declared.decision.Arrival.{Arrival}
use Rattle.authentication.specs.declared.domain.Domain.{Domain}
use Rattle.authentication.specs.declared.realm.RealmSecrets.{RealmSecrets}
use Rattle.registrar.specs.Asking.{Asking, IsAsking}
use Rattle.registrar.specs.declared.expirations.AskedExpirations.{AskedExpirations}
use Rattle.registrar.specs.declared.source.Source.{Source}

-- a realm that is lent is the same
lent_is : {U : Type 0} (lent : Option (Bor (RealmSecrets U))) → realm_if_any lent ≡ option_map seen_realm (option_copied lent)
lent_is None = refl
lent_is (Some realm) = refl

pub lent_so : {U : Type 0} (realm : Option (RealmSecrets U)) (lent : Option (Bor (RealmSecrets U))) (r : Option Realm)
    → option_copied lent ≡ realm → option_map seen_realm realm ≡ r → realm_if_any lent ≡ r
lent_so realm lent r same is = lent_is lent ∙ ap (option_map seen_realm) same ∙ is

pub decided_so : (admission seen : Admission) (arrival made : Arrival) (m : MessageText) (by : Decision)
    → seen ≡ admission → made ≡ arrival → IsDecision seen made m by → IsDecision admission arrival m by
decided_so admission seen arrival made m by a r is =
    subst (λ (x : Admission). IsDecision x arrival m by) a (subst (λ (x : Arrival). IsDecision seen x m by) r is)

pub asked_so : (domain : Domain) (realm asked : Option Realm) (times given : AskedExpirations) (source from : Source) (m : MessageText) (asking : Asking)
    → asked ≡ realm → given ≡ times → from ≡ source → IsAsking domain asked given from m asking → IsAsking domain realm times source m asking
asked_so domain realm asked times given source from m asking r t s is =
    subst (λ (x : Option Realm). IsAsking domain x times source m asking) r
    (subst (λ (x : AskedExpirations). IsAsking domain asked x source m asking) t
    (subst (λ (x : Source). IsAsking domain asked given x m asking) s is))
