-- Credentials in memory, as lists.
use Rattle.std.specs.Prelude.{◌≡◌, ℕ, Bool, true, List, Option, Some, None}
use Rattle.sip_digest.specs.declared.auth_text.AuthText.{AuthText}
use Rattle.sip_digest.specs.declared.auth_text.AuthText.TheVariants as text
use Rattle.sip_digest.specs.declared.credentials.Quality.{Quality}
use Rattle.sip_digest.specs.declared.credentials.Quality.TheVariants as quality
use Rattle.sip_digest.specs.declared.credentials.Credentials.{Credentials}
use Rattle.sip_digest.specs.declared.reading.ReadCredentials.{ReadCredentials}
use Rattle.sip_digest.specs.declared.reading.ReadCredentials.TheVariants as reading
use Rattle.sip_digest.specs.AuthParam.{AuthParam}
use Rattle.sip_digest.specs.Credentials as spec

module _ {A : Type 0} where
  abbrev pub seen_text : AuthText A → List ℕ
  seen_text (text.Lent bytes) = bytes.now
  seen_text (text.Made bytes) = bytes.items

  abbrev pub seen_quality : Quality A → spec.Quality
  seen_quality quality.Unsaid = spec.Unsaid
  seen_quality (quality.Auth nc cnonce qop) = spec.Auth (seen_text nc) (seen_text cnonce) (seen_text qop)
  seen_quality quality.Other = spec.Other

  abbrev pub seen_credentials : Credentials A → spec.Credentials
  seen_credentials c = record {
    username = seen_text c.username;
    nonce = seen_text c.nonce;
    uri = seen_text c.uri;
    response = seen_text c.response;
    algorithm = c.algorithm;
    quality = seen_quality c.quality;
  }

  -- none where they are not of the realm; of the realm, but cannot be read; the credentials
  abbrev pub seen_reading : ReadCredentials A → Option (Option spec.Credentials)
  seen_reading reading.OtherRealm = None
  seen_reading reading.Unreadable = Some None
  seen_reading (reading.Read c) = Some (Some (seen_credentials c))

  -- what a value gives is what the grammar has of it
  abbrev pub IsReadingOf : (value realm : List ℕ) → ReadCredentials A → Type 0
  IsReadingOf value realm reading.OtherRealm = (params : List AuthParam) (whole : Bool) → spec.IsOfRealm value realm params whole → ⊥
  IsReadingOf value realm reading.Unreadable = (params : List AuthParam) × (whole : Bool) × spec.IsOfRealm value realm params whole × (spec.credentials_in params whole ≡ None)
  IsReadingOf value realm (reading.Read c) = (params : List AuthParam) × spec.IsOfRealm value realm params true × (spec.credentials_of (spec.named_in params) ≡ Some (seen_credentials c))
