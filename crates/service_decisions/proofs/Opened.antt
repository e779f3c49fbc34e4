-- A request is opened by the setup of what was looked up for it, or, where nothing counts, by the setup as it stands.
use Rattle.std.proofs.Common.{◌≡◌, ◌∙◌, ℕ, Bool, true, false, List, [], map, Option, ap, refl, sym}
use Rattle.std.specs.Prelude.{if◌then◌else◌}
use Rattle.sip_text.specs.Text.{MessageText}
use Rattle.sip_uri.specs.declared.hop.Hop.{Hop}
use Rattle.authentication.specs.declared.decision.Rule.{Rule}
use Rattle.bindings.specs.Bindings.{Binding, there}
use Rattle.proxy_config.specs.Moment.{BoundContact}
use Rattle.proxy_config.specs.Setup.{Setup}
use Rattle.proxy_config.specs.declared.dialog_token.DialogToken.{DialogToken}
use Rattle.service_config.specs.Settings.{Gateway}
use Rattle.fork_call.specs.Opening.{with_token}
use Rattle.proxy_dispatch.specs.Admitting.{Decision, Opens}
use Rattle.service_decisions.specs.Targets.{Beyond, Nowhere, OfUser, Place, bound_contact, gateway_contact, place_of, reached_at, setup_for, setup_with, token_for}
use Rattle.service_decisions.specs.Served.{IsPlain, by_gateways, opened_at, opened_by}
use Rattle.service_decisions.specs.Serving.{Serving}

pub opened_so : (serving : Serving) (setup : Setup) (rule : Rule) (m : MessageText) (source : Hop) (place : Place) (held : List Binding) (gateways : List Gateway) (by : Bool) (contacts : List BoundContact) (token : Option DialogToken) (decision : Decision)
    → gateways ≡ serving.settings.gateways → by ≡ by_gateways serving rule source place → contacts ≡ map bound_contact (there serving.moment held) → token ≡ serving.token
    → decision ≡ Opens (setup_for setup gateways by place contacts token m) → decision ≡ Opens (opened_at serving setup rule m source place held)
opened_so serving setup rule m source place held gateways by contacts token decision g b c t e =
    e
    ∙ ap Opens (ap (λ (x : List Gateway). setup_for setup x by place contacts token m) g
    ∙ ap (λ (x : Bool). setup_for setup serving.settings.gateways x place contacts token m) b
    ∙ ap (λ (x : List BoundContact). setup_for setup serving.settings.gateways (by_gateways serving rule source place) place x token m) c
    ∙ ap (λ (x : Option DialogToken). setup_for setup serving.settings.gateways (by_gateways serving rule source place) place (map bound_contact (there serving.moment held)) x m) t)

-- ---- where nothing counts

either_none : (b : Bool) (user : List ℕ) → (if b then map (gateway_contact user) [] else []) ≡ []
either_none true user = refl
either_none false user = refl

nowhere : (setup : Setup) (b : Bool) (place : Place) → reached_at setup [] b place [] ≡ []
nowhere setup b (OfUser user) = either_none _ user
nowhere setup b (Beyond user) = refl
nowhere setup b Nowhere = refl

-- while nothing is held
pub opened_plainly : (serving : Serving) (setup : Setup) (rule : Rule) (m : MessageText) (source : Hop) → IsPlain serving
    → with_token (token_for serving.token m) setup ≡ opened_by serving setup rule m source []
opened_plainly serving setup rule m source plain =
    let place = place_of setup rule m in
    let b = by_gateways serving rule source place in
    sym (ap (λ (gs : List Gateway). setup_for setup gs b place [] serving.token m) plain
    ∙ ap (λ (cs : List BoundContact). setup_with setup place cs (token_for serving.token m)) (nowhere setup b place))
