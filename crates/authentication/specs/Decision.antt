-- Whether a request is opened that would open a call, and how it is answered else (RFC 3261 sections 16.3 and 22.3). The first row decides
-- that holds.
use Rattle.std.specs.Prelude.{◌≡◌, ◌⊎◌, ℕ, Bool, true, false, ◌&&◌, List, Option, Some, None, codes, if◌then◌else◌}
use Rattle.std.specs.Str.{bytes_eq}
use Rattle.sip_text.specs.Text.{MessageText, method_in}
use Rattle.sip_uri.specs.Reading.{read_uri}
use Rattle.sip_uri.specs.Uri.{Uri}
use Rattle.sip_via.specs.Address.{address_text}
use Rattle.sip_via.specs.ViaParts.{or_empty}
use Rattle.sip_route.specs.Loop.{request_uri}
use Rattle.sip_build.specs.declared.responses.OwnStatus.{OwnStatus}
use Rattle.sip_build.specs.declared.responses.OwnStatus.TheVariants.{Forbidden}
use Rattle.authentication.specs.declared.challenge.Challenger.TheVariants.{Proxy}
use Rattle.authentication.specs.declared.domain.Domain.{Domain}
use Rattle.authentication.specs.Answer.{Answer, plain, turned_away}
use Rattle.authentication.specs.Domain.{is_of_domain}
use Rattle.authentication.specs.Noted.{noted}
use Rattle.authentication.specs.Party.{uri_if_read, uri_in}
use Rattle.authentication.specs.Realm.{Realm}
use Rattle.authentication.specs.Standing.{Standing, Stands, Unasked, Anonymous, Unusable, Stale, Wrong, Right, arrival_of}
use Rattle.authentication.specs.declared.decision.Arrival.{Arrival}
use Rattle.authentication.specs.declared.decision.Rule.{Rule}
use Rattle.authentication.specs.declared.decision.Rule.TheVariants as rules
use Rattle.authentication.specs.Dialog.{IsOfDialog}
use Rattle.authentication.specs.Sender.{claims_domain, is_from}

-- whom a proxy serves
pub record Admission : Type 0 where
  pub domain : Domain
  pub realm : Option Realm
  -- what the tokens of dialogs are made with
  pub secret : List ℕ
  -- strangers may call the users of the domain
  pub serves_strangers : Bool

pub data Decision : Type 0 where
  -- the registrar decides
  Registers : Decision
  -- a call is opened, by this rule
  Opens : Rule → Decision
  -- it is answered so; with the name for which wrong credentials came, if that is to be noted
  Turned : Answer → (noted : Option (List ℕ)) → Decision

abbrev pub plain_turned : OwnStatus → Decision
plain_turned status = Turned (plain status) None

-- ---- what is asked of the request

abbrev pub is_of_domain_if_read : Domain → Option Uri → Bool
is_of_domain_if_read domain None = false
is_of_domain_if_read domain (Some uri) = is_of_domain domain uri

-- its Request-URI is of the domain
abbrev pub is_for_domain : Domain → MessageText → Bool
is_for_domain domain m = is_of_domain_if_read domain (uri_if_read (read_uri (request_uri m.start)))

abbrev pub is_register : MessageText → Bool
is_register m = bytes_eq (or_empty (method_in m.start)) (codes "REGISTER")

-- a REGISTER for the domain (section 10.2)
abbrev pub is_for_registrar : Domain → MessageText → Bool
is_for_registrar domain m = is_register m && is_for_domain domain m

-- ---- one who claims to be of the domain: 400; he may send it; 403 for another user's; a challenge

abbrev pub proved : (name : List ℕ) → Option Uri → Decision
proved name from = if is_from name from then Opens rules.Password else Turned (plain Forbidden) (Some name)

abbrev pub unproved : Admission → Arrival → Standing → Decision
unproved admission arrival standing = Turned (turned_away Proxy admission.realm (address_text arrival.source.addr) arrival.second standing) (noted standing)

abbrev pub claimed : Admission → Arrival → Option Uri → Standing → Decision
claimed admission arrival from Unasked = unproved admission arrival Unasked
claimed admission arrival from Anonymous = unproved admission arrival Anonymous
claimed admission arrival from Unusable = unproved admission arrival Unusable
claimed admission arrival from Stale = unproved admission arrival Stale
claimed admission arrival from (Wrong name) = unproved admission arrival (Wrong name)
claimed admission arrival from (Right name) = proved name from

-- ---- any other: he may call a user of the domain who is there, where strangers are served

abbrev pub other : Admission → Arrival → MessageText → Decision
other admission arrival m =
    if is_for_domain admission.domain m && (admission.serves_strangers && arrival.has_place) then Opens rules.Stranger else plain_turned Forbidden

abbrev pub IsOfSender : (claims : Bool) → Admission → Arrival → MessageText → Decision → Type 0
IsOfSender true admission arrival m decision =
    (standing : Standing)
    × Stands true Proxy admission.realm m (arrival_of m (address_text arrival.source.addr) arrival.second) standing
    × (decision ≡ claimed admission arrival (uri_in (codes "from") m) standing)
IsOfSender false admission arrival m decision = decision ≡ other admission arrival m

abbrev pub IsOfUntrusted : Admission → Arrival → MessageText → Decision → Type 0
IsOfUntrusted admission arrival m decision =
    (IsOfDialog admission.secret admission.domain.own admission.domain.route arrival.second m × (decision ≡ Opens rules.InDialog))
    ⊎ ((IsOfDialog admission.secret admission.domain.own admission.domain.route arrival.second m → ⊥)
    × IsOfSender (claims_domain admission.domain (uri_in (codes "from") m)) admission arrival m decision)

abbrev pub IsOfSource : (trusted : Bool) → Admission → Arrival → MessageText → Decision → Type 0
IsOfSource true admission arrival m decision = decision ≡ Opens rules.Trusted
IsOfSource false admission arrival m decision = IsOfUntrusted admission arrival m decision

-- what the checks of section 16.3 refuse
abbrev pub IsOfChecked : Option OwnStatus → Admission → Arrival → MessageText → Decision → Type 0
IsOfChecked (Some status) admission arrival m decision = decision ≡ plain_turned status
IsOfChecked None admission arrival m decision = IsOfSource arrival.trusted admission arrival m decision

abbrev pub IsOfRequest : (registers : Bool) → Admission → Arrival → MessageText → Decision → Type 0
IsOfRequest true admission arrival m decision = decision ≡ Registers
IsOfRequest false admission arrival m decision = IsOfChecked arrival.refusal admission arrival m decision

abbrev pub IsDecision : Admission → Arrival → MessageText → Decision → Type 0
IsDecision admission arrival m decision = IsOfRequest (is_for_registrar admission.domain m) admission arrival m decision

-- ---- who may open a call by which rule

abbrev pub MayOpen : Admission → Arrival → MessageText → Rule → Type 0
MayOpen admission arrival m rules.Trusted = arrival.trusted ≡ true
MayOpen admission arrival m rules.InDialog = IsOfDialog admission.secret admission.domain.own admission.domain.route arrival.second m
MayOpen admission arrival m rules.Password =
    (name : List ℕ)
    × Stands true Proxy admission.realm m (arrival_of m (address_text arrival.source.addr) arrival.second) (Right name)
    × (is_from name (uri_in (codes "from") m) ≡ true)
MayOpen admission arrival m rules.Stranger = (is_for_domain admission.domain m ≡ true) × (admission.serves_strangers ≡ true) × (arrival.has_place ≡ true)
