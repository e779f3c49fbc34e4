-- By which setup a service opens a request: to which contacts, by which gateways, and with which token of a dialog (RFC 3261 sections 10,
-- 16.5, 16.6 and 16.12.1).
use Rattle.std.specs.Prelude.{ℕ, Bool, true, false, ◌&&◌, not, List, [], ◌∷◌, ◌++◌, map, take, drop, min, Option, Some, None, Result, Ok, Err, option_and_then, codes, if◌then◌else◌}
use Rattle.fork_rank.specs.Field.{most_q}
use Rattle.sip_text.specs.Text.{MessageText}
use Rattle.sip_uri.specs.declared.fault.UriFault.{UriFault}
use Rattle.sip_uri.specs.declared.hop.Hop.{Hop}
use Rattle.sip_uri.specs.Uri.{Uri, request_uri}
use Rattle.sip_build.specs.Dialogs.{opens_dialog}
use Rattle.fork_call.specs.Opening.{with_token}
use Rattle.authentication.specs.declared.decision.Rule.{Rule}
use Rattle.authentication.specs.declared.decision.Rule.TheVariants.{Trusted, InDialog, Password, Stranger}
use Rattle.authentication.specs.Party.{uri_in}
use Rattle.bindings.specs.Bindings.{Binding}
use Rattle.proxy_config.specs.declared.dialog_token.DialogToken.{DialogToken}
use Rattle.proxy_config.specs.Moment.{BoundContact, at_moment, with_ways}
use Rattle.proxy_config.specs.Setup.{Setup, locations_of}
use Rattle.proxy_routing.specs.Admission.{target_uri}
use Rattle.proxy_routing.specs.Targets.{is_domain}
use Rattle.service_config.specs.Settings.{Gateway, Settings, is_of_gateway}

-- ---- whose bindings count for a request

pub data Place : Type 0 where
  -- it is for this user of the domain
  OfUser : List ℕ → Place
  -- it is for a URI that is not of the domain, and this user of the domain stands in its To
  Beyond : List ℕ → Place
  -- nobody's
  Nowhere : Place

-- the user that a URI of the domain names
abbrev pub user_of : Setup → Uri → Option (List ℕ)
user_of setup uri = if is_domain setup uri then uri.user else None

abbrev pub user_in_to : Setup → MessageText → Option (List ℕ)
user_in_to setup m = option_and_then (user_of setup) (uri_in (codes "to") m)

abbrev pub of_user : Option (List ℕ) → Place
of_user None = Nowhere
of_user (Some user) = OfUser user

abbrev pub beyond : Option (List ℕ) → Place
beyond None = Nowhere
beyond (Some user) = Beyond user

abbrev pub place_at : Setup → (within : Bool) → MessageText → Result Uri UriFault → Place
place_at setup within m (Ok uri) =
    if is_domain setup uri then of_user uri.user
    else (if within then beyond (user_in_to setup m) else Nowhere)
place_at setup within m (Err fault) = Nowhere

-- a URI that is not of the domain may be that of a contact where the request is trusted, or of a dialog
abbrev pub may_be_contact : Rule → Bool
may_be_contact Trusted = true
may_be_contact InDialog = true
may_be_contact Password = false
may_be_contact Stranger = false

abbrev pub place_of : Setup → Rule → MessageText → Place
place_of setup rule m = place_at setup (may_be_contact rule) m (target_uri m)

-- ---- the contacts of a user

abbrev pub bound_contact : Binding → BoundContact
bound_contact binding = record {
  uri = binding.contact.uri;
  key = binding.contact.key;
  q = min binding.contact.q most_q;
  hop = binding.contact.hop;
}

-- ---- gateways

-- a gateway's URI as it stands in a request, with this user behind its scheme
abbrev pub uri_for : (user : List ℕ) → Uri → List ℕ
uri_for user uri = take 4 (request_uri uri) ++ (user ++ (64 ∷ drop 4 (request_uri uri)))

abbrev pub gateway_contact : (user : List ℕ) → Gateway → BoundContact
gateway_contact user gateway = record { uri = uri_for user gateway.uri; key = []; q = min gateway.q most_q; hop = gateway.hop }

-- they may be used for a sender who has a password, or is trusted and is no gateway
abbrev pub may_use_gateways : Settings → Rule → Hop → Bool
may_use_gateways settings Trusted source = not (is_of_gateway settings source.addr)
may_use_gateways settings Password source = true
may_use_gateways settings InDialog source = false
may_use_gateways settings Stranger source = false

abbrev pub is_none_of : {X : Type 0} → List X → Bool
is_none_of [] = true
is_none_of (x ∷ xs) = false

-- where there are neither contacts nor locations of the user, and gateways may be used for him, these
abbrev pub contacts_or_gateways : Setup → List Gateway → (by_gateways : Bool) → (user : List ℕ) → List BoundContact → List BoundContact
contacts_or_gateways setup gateways by_gateways user [] =
    if by_gateways && is_none_of (locations_of user setup.locations) then map (gateway_contact user) gateways else []
contacts_or_gateways setup gateways by_gateways user (contact ∷ contacts) = contact ∷ contacts

-- ---- the setup

abbrev pub reached_at : Setup → List Gateway → (by_gateways : Bool) → Place → List BoundContact → List BoundContact
reached_at setup gateways by_gateways (OfUser user) contacts = contacts_or_gateways setup gateways by_gateways user contacts
reached_at setup gateways by_gateways (Beyond user) contacts = contacts
reached_at setup gateways by_gateways Nowhere contacts = []

abbrev pub moment_at : Setup → Place → List BoundContact → Setup
moment_at setup (OfUser user) contacts = at_moment user contacts setup
moment_at setup (Beyond user) contacts = with_ways contacts setup
moment_at setup Nowhere contacts = with_ways [] setup

-- a request that opens a dialog has the token in its Record-Route line
abbrev pub token_for : Option DialogToken → MessageText → Option DialogToken
token_for token m = if opens_dialog m then token else None

-- without contacts the setup leads there as it stands
abbrev pub moment_or_standing : Setup → Place → List BoundContact → Setup
moment_or_standing setup place contacts = if is_none_of contacts then setup else moment_at setup place contacts

abbrev pub setup_with : Setup → Place → List BoundContact → Option DialogToken → Setup
setup_with setup place contacts token = with_token token (moment_or_standing setup place contacts)

abbrev pub setup_for : Setup → List Gateway → (by_gateways : Bool) → Place → List BoundContact → Option DialogToken → MessageText → Setup
setup_for setup gateways by_gateways place contacts token m =
    setup_with setup place (reached_at setup gateways by_gateways place contacts) (token_for token m)
