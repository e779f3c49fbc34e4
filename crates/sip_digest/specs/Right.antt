-- Whether credentials are right (RFC 3261 section 22.4, RFC 7616 sections 3.4.1 and 3.4.6).
use Rattle.std.specs.Prelude.{◌≡◌, ℕ, true, ◌⊎◌, List, [], Option, Some, None}
use Rattle.std.specs.Str.{str_to_ascii_lowercase}
use Rattle.sip_uri.specs.Grammar.{IsUri}
use Rattle.sip_uri.specs.Key.{key_of}
use Rattle.sip_uri.specs.Uri.{Uri, spelling}
use Rattle.sip_digest.specs.declared.algorithm.Algorithm.{Algorithm}
use Rattle.sip_digest.specs.declared.algorithm.Algorithm.TheVariants.{Md5, Sha256}
use Rattle.sip_digest.specs.declared.algorithm.Algorithms.{Algorithms}
use Rattle.sip_digest.specs.declared.secrets.Secrets.{Secrets}
use Rattle.sip_digest.specs.declared.verdict.JudgedRequest.{JudgedRequest}
use Rattle.sip_digest.specs.Algorithm.{is_among}
use Rattle.sip_digest.specs.Credentials.{Credentials, Quality, Unsaid, Auth, Other}
use Rattle.sip_digest.specs.Response.{protection_text, response_of}
use Rattle.sip_digest.specs.Stamp.{IsGoodNonce}

-- ---- `uri` is the request's

-- two texts spell URIs of one target
pub record NameOneTarget (text other : List ℕ) : Type 0 where
  pub first : Uri
  pub second : Uri
  pub first_is : IsUri first
  pub second_is : IsUri second
  pub first_text : text ≡ spelling first
  pub second_text : other ≡ spelling second
  pub same : key_of first ≡ key_of second

-- the same text as the Request-URI, or the same target
abbrev pub IsUriOf : (uri request_uri : List ℕ) → Type 0
IsUriOf uri request_uri = (uri ≡ request_uri) ⊎ NameOneTarget uri request_uri

-- ---- the response

-- the digits of H(A1) of a user, if there is one
abbrev pub secret_of : Algorithm → Option Secrets → Option (List ℕ)
secret_of algorithm None = None
secret_of Md5 (Some secrets) = secrets.md5
secret_of Sha256 (Some secrets) = secrets.sha256

-- what stands between the nonce and H(A2)
abbrev pub between_of : Quality → Option (List ℕ)
between_of Unsaid = Some []
between_of (Auth nc cnonce qop) = Some (protection_text nc cnonce qop)
between_of Other = None

-- the response of one who knows the password, by an algorithm of the realm
pub record IsAnswered (algorithms : Algorithms) (secrets : Option Secrets) (method : List ℕ) (c : Credentials) : Type 0 where
  pub algorithm : Algorithm
  pub algorithm_is : c.algorithm ≡ Some algorithm
  pub among : is_among algorithm algorithms ≡ true
  pub between : List ℕ
  pub between_is : between_of c.quality ≡ Some between
  pub secret : List ℕ
  pub secret_is : secret_of algorithm secrets ≡ Some secret
  pub response : str_to_ascii_lowercase c.response ≡ response_of algorithm secret c.nonce between method c.uri

-- ---- the whole

pub record AreRight (secret : List ℕ) (algorithms : Algorithms) (secrets : Option Secrets) (asked : JudgedRequest) (c : Credentials) : Type 0 where
  pub nonce : IsGoodNonce secret asked.address.now asked.second c.nonce
  pub uri : IsUriOf c.uri asked.uri.now
  pub answered : IsAnswered algorithms secrets asked.method.now c
