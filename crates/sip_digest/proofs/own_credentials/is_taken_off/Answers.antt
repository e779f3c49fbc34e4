use Rattle.std.proofs.Common.{◌∙◌, Bool, sym, subst}
use Rattle.std.specs.Prelude.{IsTrue, ◌↔◌}
use Rattle.sip_digest.specs.OwnCredentials.{IsTakenOff}
use Rattle.sip_digest.proofs.OwnCredentials.{by_reading, other_name}
use Rattle.sip_digest.proofs.own_credentials.is_taken_off.Goals as goal

pub returns-then-not-is_proxy_authorization : goal.returns-then-not-is_proxy_authorization
returns-then-not-is_proxy_authorization g c =
    other_name c.args.realm.now c.args.name.now c.args.value.now (sym c.is_proxy_authorization.ensures ∙ c.if-not-is_proxy_authorization.true)

pub returns : goal.returns
returns g c =
    let named = sym c.is_proxy_authorization.ensures ∙ c.if-not-is_proxy_authorization.false in
    subst (λ (b : Bool). IsTrue b ↔ IsTakenOff c.args.realm.now c.args.name.now c.args.value.now) (sym c.is_of_realm-taken.ensures)
    (by_reading c.args.realm.now c.args.name.now c.args.value.now c.in_ok-reading.reading named c.in_ok-reading.ensures.found)
