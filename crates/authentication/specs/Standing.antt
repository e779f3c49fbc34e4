-- What is known of the sender of a request by its credentials (RFC 3261 section 22.4).
use Rattle.std.specs.Prelude.{◌≡◌, ℕ, Bool, true, false, List, Option, Some, None}
use Rattle.sip_text.specs.Name.{values_of}
use Rattle.sip_text.specs.Text.{MessageText, method_in}
use Rattle.sip_route.specs.Loop.{request_uri}
use Rattle.sip_via.specs.ViaParts.{or_empty}
use Rattle.sip_digest.specs.declared.verdict.JudgedRequest.{JudgedRequest}
use Rattle.sip_digest.specs.declared.verdict.CredentialsVerdict.{CredentialsVerdict}
use Rattle.sip_digest.specs.declared.verdict.CredentialsVerdict.TheVariants as verdict
use Rattle.sip_digest.specs.Credentials.{Credentials}
use Rattle.sip_digest.specs.Right.{IsAnswered, IsUriOf}
use Rattle.sip_digest.specs.Stamp.{IsGoodNonce}
use Rattle.authentication.specs.declared.challenge.Challenger.{Challenger}
use Rattle.authentication.specs.Challenge.{credentials_name}
use Rattle.authentication.specs.Given.{IsGiven}
use Rattle.authentication.specs.Realm.{Realm}

pub data Standing : Type 0 where
  -- nobody looked at them
  Unasked : Standing
  -- none came for the realm, or there is no realm
  Anonymous : Standing
  -- they cannot be read, or are for another URI
  Unusable : Standing
  -- their nonce is not good
  Stale : Standing
  -- their nonce is good, and they are not right
  Wrong : (name : List ℕ) → Standing
  Right : (name : List ℕ) → Standing

-- what credentials came with
pub record Arrival : Type 0 where
  pub method : List ℕ
  pub uri : List ℕ
  -- the address that the request came from, as text
  pub address : List ℕ
  -- the second since 1970 at which it came
  pub second : ℕ

abbrev pub arrival_of : MessageText → (address : List ℕ) → (second : ℕ) → Arrival
arrival_of m address second = record { method = or_empty (method_in m.start); uri = request_uri m.start; address = address; second = second }

abbrev pub asked_as : JudgedRequest → Arrival
asked_as asked = record { method = asked.method.now; uri = asked.uri.now; address = asked.address.now; second = asked.second }

-- their nonce is not good for the address that they came from
abbrev pub IsStale : Realm → Arrival → Credentials → Type 0
IsStale realm arrival c = IsGoodNonce realm.secret arrival.address arrival.second c.nonce → ⊥

pub record AreRight (realm : Realm) (arrival : Arrival) (c : Credentials) : Type 0 where
  pub nonce : IsGoodNonce realm.secret arrival.address arrival.second c.nonce
  pub uri : IsUriOf c.uri arrival.uri
  pub answered : IsAnswered realm.algorithms (realm.secrets c.username) arrival.method c

abbrev pub IsVerdictOn : Realm → Arrival → Credentials → CredentialsVerdict → Type 0
IsVerdictOn realm arrival c verdict.Right = AreRight realm arrival c
IsVerdictOn realm arrival c verdict.Stale = IsStale realm arrival c
IsVerdictOn realm arrival c verdict.Wrong = (IsStale realm arrival c → ⊥) × (AreRight realm arrival c → ⊥)

abbrev pub IsJudgedOf : Realm → Arrival → Credentials → Standing → Type 0
IsJudgedOf realm arrival c Unasked = ⊥
IsJudgedOf realm arrival c Anonymous = ⊥
IsJudgedOf realm arrival c Unusable = IsUriOf c.uri arrival.uri → ⊥
IsJudgedOf realm arrival c Stale = IsUriOf c.uri arrival.uri × IsVerdictOn realm arrival c verdict.Stale
IsJudgedOf realm arrival c (Wrong name) = (name ≡ c.username) × IsUriOf c.uri arrival.uri × IsVerdictOn realm arrival c verdict.Wrong
IsJudgedOf realm arrival c (Right name) = (name ≡ c.username) × IsUriOf c.uri arrival.uri × IsVerdictOn realm arrival c verdict.Right

-- of the credentials that came
abbrev pub IsJudged : Realm → Arrival → Option (Option Credentials) → Standing → Type 0
IsJudged realm arrival None standing = standing ≡ Anonymous
IsJudged realm arrival (Some None) standing = standing ≡ Unusable
IsJudged realm arrival (Some (Some c)) standing = IsJudgedOf realm arrival c standing

-- where there is a realm
abbrev pub StandsFor : Challenger → Realm → MessageText → Arrival → Standing → Type 0
StandsFor challenger realm m arrival standing =
    (given : Option (Option Credentials)) × IsGiven (values_of (credentials_name challenger) m.headers) realm.name given × IsJudged realm arrival given standing

-- where they are wanted, and there is a realm
abbrev pub Stands : (wanted : Bool) → Challenger → Option Realm → MessageText → Arrival → Standing → Type 0
Stands false challenger realm m arrival standing = standing ≡ Unasked
Stands true challenger None m arrival standing = standing ≡ Anonymous
Stands true challenger (Some realm) m arrival standing = StandsFor challenger realm m arrival standing
