-- What a REGISTER request asks for, and why it is answered before that is looked at (RFC 3261 section 10.3 steps 1 to 5).
use Rattle.std.specs.Prelude.{◌≡◌, ℕ, Bool, true, false, ◌||◌, not, List, map, Option, Some, None, is_some, codes, if◌then◌else◌}
use Rattle.std.specs.Str.{bytes_eq}
use Rattle.sip_text.specs.Fields.{CSeqText, message_cseq}
use Rattle.sip_text.specs.Name.{first_value, values_of}
use Rattle.sip_text.specs.Text.{HeaderText, MessageText}
use Rattle.sip_uri.specs.Uri.{Uri}
use Rattle.sip_via.specs.Address.{address_text}
use Rattle.sip_via.specs.Edits.{line}
use Rattle.sip_via.specs.ViaParts.{or_empty}
use Rattle.sip_route.specs.Loop.{call_id}
use Rattle.sip_route.specs.RequestKey.{request_key}
use Rattle.sip_build.specs.declared.responses.OwnStatus.TheVariants.{BadExtension, NotFound}
use Rattle.authentication.specs.declared.challenge.Challenger.TheVariants.{Server}
use Rattle.authentication.specs.declared.domain.Domain.{Domain}
use Rattle.authentication.specs.Answer.{Answer, plain, turned_away}
use Rattle.authentication.specs.Domain.{is_of_domain}
use Rattle.authentication.specs.Noted.{noted}
use Rattle.authentication.specs.Party.{uri_in}
use Rattle.authentication.specs.Realm.{Realm}
use Rattle.authentication.specs.Standing.{Standing, Stands, Unasked, Anonymous, Unusable, Stale, Wrong, Right, arrival_of}
use Rattle.bindings.specs.Bindings.{RequestId}
use Rattle.registrar.specs.declared.expirations.AskedExpirations.{AskedExpirations}
use Rattle.registrar.specs.declared.source.Source.{Source}
use Rattle.registrar.specs.Contact.{Terms}
use Rattle.registrar.specs.Contacts.{Contacts, contacts_of}

-- ---- what is asked for

pub record Registration : Type 0 where
  pub user : List ℕ
  pub id : RequestId
  -- the millisecond at which it came
  pub at : ℕ
  -- the fewest seconds for which a contact may be bound
  pub least : ℕ
  pub contacts : Contacts

abbrev pub number_of : Option CSeqText → ℕ
number_of None = 0
number_of (Some cseq) = cseq.number

abbrev pub id_of : MessageText → RequestId
id_of m = record { call_id = call_id m; cseq = number_of (message_cseq m.headers); key = or_empty (request_key m) }

abbrev pub terms_of : Domain → AskedExpirations → Source → MessageText → Terms
terms_of domain expirations source m = record { source = source.hop; streams = domain.streams; expirations = expirations; expires = first_value (codes "expires") m.headers }

abbrev pub registration_of : Domain → AskedExpirations → Source → MessageText → (user : List ℕ) → Registration
registration_of domain expirations source m user = record {
  user = user;
  id = id_of m;
  at = source.millisecond;
  least = expirations.least;
  contacts = contacts_of (terms_of domain expirations source m) (values_of (codes "contact") m.headers);
}

-- ---- the rows

-- it asks for an extension, and this registrar knows none (step 2)
abbrev pub asks_extension : MessageText → Bool
asks_extension m = is_some (first_value (codes "require") m.headers)

abbrev pub unsupported : List ℕ → HeaderText
unsupported value = line (codes "Unsupported") value

abbrev pub extension_answer : MessageText → Answer
extension_answer m = record { status = BadExtension; lines = map unsupported (values_of (codes "require") m.headers) }

abbrev pub user_of_domain : Domain → Option Uri → Option (List ℕ)
user_of_domain domain None = None
user_of_domain domain (Some uri) = if is_of_domain domain uri then uri.user else None

-- the user of the domain whom To names (step 5)
abbrev pub user_of : Domain → MessageText → Option (List ℕ)
user_of domain m = user_of_domain domain (uri_in (codes "to") m)

-- the credentials are right, and this user's (step 4)
abbrev pub is_users : List ℕ → Standing → Bool
is_users user Unasked = false
is_users user Anonymous = false
is_users user Unusable = false
is_users user Stale = false
is_users user (Wrong name) = false
is_users user (Right name) = bytes_eq name user

pub data Asking : Type 0 where
  -- it is answered so; with the name for which wrong credentials came, if that is to be noted
  Turned : Answer → (noted : Option (List ℕ)) → Asking
  Registers : Registration → Asking

abbrev pub asked_by : Domain → Option Realm → AskedExpirations → Source → MessageText → Standing → (user : List ℕ) → Asking
asked_by domain realm expirations source m standing user =
    if source.inside || is_users user standing then Registers (registration_of domain expirations source m user)
    else Turned (turned_away Server realm (address_text source.hop.addr) source.second standing) (noted standing)

-- 404 where To names nobody; else the credentials decide, which are looked at where the source is not inside
abbrev pub IsAskingFor : Domain → Option Realm → AskedExpirations → Source → MessageText → Option (List ℕ) → Asking → Type 0
IsAskingFor domain realm expirations source m None asking = asking ≡ Turned (plain NotFound) None
IsAskingFor domain realm expirations source m (Some user) asking =
    (standing : Standing)
    × Stands (not source.inside) Server realm m (arrival_of m (address_text source.hop.addr) source.second) standing
    × (asking ≡ asked_by domain realm expirations source m standing user)

abbrev pub IsAskingIf : (extension : Bool) → Domain → Option Realm → AskedExpirations → Source → MessageText → Asking → Type 0
IsAskingIf true domain realm expirations source m asking = asking ≡ Turned (extension_answer m) None
IsAskingIf false domain realm expirations source m asking = IsAskingFor domain realm expirations source m (user_of domain m) asking

-- 420 comes first
abbrev pub IsAsking : Domain → Option Realm → AskedExpirations → Source → MessageText → Asking → Type 0
IsAsking domain realm expirations source m asking = IsAskingIf (asks_extension m) domain realm expirations source m asking
