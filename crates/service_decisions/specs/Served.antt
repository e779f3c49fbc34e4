-- What a service decides of a request that may open a call (RFC 3261 sections 10, 16.5, 16.6 and 22.3).
use Rattle.std.specs.Prelude.{◌≡◌, ℕ, Bool, true, false, ◌&&◌, ◌||◌, not, List, [], map, Option, Some, None, codes}
use Rattle.std.specs.Str.{bytes_eq}
use Rattle.sip_text.specs.Text.{MessageText, method_in}
use Rattle.sip_via.specs.ViaParts.{or_empty}
use Rattle.sip_uri.specs.declared.hop.Hop.{Hop}
use Rattle.authentication.specs.declared.decision.Rule.{Rule}
use Rattle.authentication.specs.declared.decision.Rule.TheVariants as rules
use Rattle.authentication.specs.declared.decision.Arrival.{Arrival}
use Rattle.authentication.specs.declared.domain.Domain.{Domain}
use Rattle.authentication.specs.Decision as authentication
use Rattle.bindings.specs.Bindings.{Binding, there}
use Rattle.proxy_config.specs.Setup.{Setup, locations_of, route_of}
use Rattle.proxy_dispatch.specs.Admitting as dispatch
use Rattle.service_config.specs.Settings.{is_trusted}
use Rattle.service_decisions.specs.Targets.{Place, OfUser, Beyond, Nowhere, bound_contact, is_none_of, may_use_gateways, place_of, setup_for}
use Rattle.service_decisions.specs.Serving.{Serving, is_known, realm_at}

-- ---- where a request is opened to

-- the user whose bindings count
abbrev pub user_at : Place → Option (List ℕ)
user_at (OfUser user) = Some user
user_at (Beyond user) = Some user
user_at Nowhere = None

-- a user who has a password here is not reached by gateways
abbrev pub may_be_abroad : Serving → Place → Bool
may_be_abroad serving (OfUser user) = not (is_known serving.secrets user)
may_be_abroad serving (Beyond user) = false
may_be_abroad serving Nowhere = false

abbrev pub by_gateways : Serving → Rule → Hop → Place → Bool
by_gateways serving rule source place =
    not (is_none_of serving.settings.gateways) && (may_use_gateways serving.settings rule source && may_be_abroad serving place)

-- by the setup of the moment, where so much was bound to the user who counts
abbrev pub opened_at : Serving → Setup → Rule → MessageText → Hop → Place → List Binding → Setup
opened_at serving setup rule m source place held =
    setup_for setup serving.settings.gateways (by_gateways serving rule source place) place (map bound_contact (there serving.moment held)) serving.token m

abbrev pub opened_by : Serving → Setup → Rule → MessageText → Hop → List Binding → Setup
opened_by serving setup rule m source held = opened_at serving setup rule m source (place_of setup rule m) held

-- where there is no gateway, what is opened while nothing is held is opened by the setup as it stands, with the token of the dialog
abbrev pub IsPlain : Serving → Type 0
IsPlain serving = serving.settings.gateways ≡ []

-- ---- what is known of the request

-- its user has a location, or a binding that is there
abbrev pub has_place_at : Setup → Place → (moment : ℕ) → List Binding → Bool
has_place_at setup (OfUser user) moment held = not (is_none_of (locations_of user setup.locations)) || not (is_none_of (there moment held))
has_place_at setup (Beyond user) moment held = false
has_place_at setup Nowhere moment held = false

-- that is looked at for strangers alone, where they are served
abbrev pub has_place : Serving → Setup → MessageText → Hop → List Binding → Bool
has_place serving setup m source held =
    not (is_trusted serving.settings source.addr)
    && (serving.settings.strangers && has_place_at setup (place_of setup rules.Stranger m) serving.moment held)

abbrev pub arrival_of : Serving → Setup → MessageText → Hop → List Binding → Arrival
arrival_of serving setup m source held = record {
  source = source;
  second = serving.second;
  trusted = is_trusted serving.settings source.addr;
  refusal = None;
  has_place = has_place serving setup m source held;
}

pub record IsDomainOf (setup : Setup) (domain : Domain) : Type 0 where
  pub name : domain.name.now ≡ setup.domain
  pub own : domain.own ≡ setup.own
  pub route : domain.route ≡ route_of setup
  pub by_port : domain.by_port ≡ setup.by_port
  pub streams : domain.streams ≡ setup.streams

abbrev pub admission_of : Serving → Domain → authentication.Admission
admission_of serving domain = record {
  domain = domain;
  realm = realm_at serving;
  secret = serving.secret;
  serves_strangers = serving.settings.strangers;
}

-- ---- what is decided

abbrev pub is_ack : MessageText → Bool
is_ack m = bytes_eq (or_empty (method_in m.start)) (codes "ACK")

-- by where it comes from, or by its dialog
abbrev pub goes_unasked : Rule → Bool
goes_unasked rules.Trusted = true
goes_unasked rules.InDialog = true
goes_unasked rules.Password = false
goes_unasked rules.Stranger = false

-- nobody can be asked for a password by an answer to an ACK, which there is none of (section 17.1.1.3): it goes on by such a rule alone
abbrev pub may_go : Rule → MessageText → Bool
may_go rule m = not (is_ack m) || goes_unasked rule

abbrev pub IsOpenedBy : (goes : Bool) → Serving → Setup → Rule → MessageText → Hop → dispatch.Decision → Type 0
IsOpenedBy true serving setup rule m source decision = (held : List Binding) × (decision ≡ dispatch.Opens (opened_by serving setup rule m source held))
IsOpenedBy false serving setup rule m source decision = decision ≡ dispatch.Leaves

-- by what is decided of its sender
abbrev pub IsServedBy : Serving → Setup → MessageText → Hop → authentication.Decision → dispatch.Decision → (noted : Option (List ℕ)) → Type 0
IsServedBy serving setup m source authentication.Registers decision noted = (decision ≡ dispatch.Leaves) × (noted ≡ None)
IsServedBy serving setup m source (authentication.Opens rule) decision noted =
    IsOpenedBy (may_go rule m) serving setup rule m source decision × (noted ≡ None)
IsServedBy serving setup m source (authentication.Turned answer name) decision noted = (decision ≡ dispatch.Answers answer) × (noted ≡ name)

-- the bindings of its user are looked at once for strangers, and once more where it is opened
pub record IsServed (serving : Serving) (setup : Setup) (m : MessageText) (source : Hop) (decision : dispatch.Decision) (noted : Option (List ℕ)) : Type 0 where
  pub domain : Domain
  pub held : List Binding
  pub by : authentication.Decision
  pub domain_is : IsDomainOf setup domain
  pub by_is : authentication.IsDecision (admission_of serving domain) (arrival_of serving setup m source held) m by
  pub decided : IsServedBy serving setup m source by decision noted
