use Rattle.std.proofs.Common.{◌≡◌, ◌∙◌, List, ℕ, ap, subst}
use Rattle.sip_text.specs.Name.{values_of}
use Rattle.sip_via.specs.Address.{address_text}
use Rattle.sip_digest.specs.SeenCredentials.{seen_reading}
use Rattle.authentication.specs.Given.{IsGiven}
use Rattle.authentication.specs.SeenRealm.{seen_realm}
use Rattle.authentication.specs.SeenStanding.{seen_standing}
use Rattle.authentication.specs.Standing.{Arrival, IsJudged, arrival_of, asked_as}
use Rattle.authentication.proofs.standing.stands_for.Goals as goal

pub returns : goal.returns
returns g c =
    let realm = seen_realm c.args.realm.now in
    let given = seen_reading c.in_ok-reading.reading in
    let standing = seen_standing c.in_ok-standing.standing in
    let arrival : asked_as c.asked_of-asked.result ≡ arrival_of c.args.message.now (address_text c.args.addr) c.args.second =
    c.asked_of-asked.ensures ∙ ap (λ (a : List ℕ). arrival_of c.args.message.now a c.args.second) (c.deref.ensures.value ∙ c.in_ok-address.ensures) in (
      given,
      subst (λ (name : List ℕ). IsGiven (values_of name c.args.message.now.headers) realm.name given) c.credentials_name.ensures c.in_ok-reading.ensures,
      subst (λ (a : Arrival). IsJudged realm a given standing) arrival c.in_ok-standing.ensures,
    )
