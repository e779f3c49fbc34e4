-- Credentials (RFC 3261 sections 22.4 and 25.1, RFC 7616 section 3.4).
use Rattle.std.specs.Prelude.{◌≡◌, ℕ, Bool, true, false, ◌&&◌, List, [], ◌∷◌, ◌++◌, length, Option, Some, None, codes, ◌==◌, if◌then◌else◌}
use Rattle.std.specs.Char.{is_ascii_hexdigit}
use Rattle.std.specs.List.{AllByRecursion, list_all}
use Rattle.std.specs.Str.{bytes_eq, str_to_ascii_lowercase}
use Rattle.sip_lex.specs.Bytes.{is_space}
use Rattle.sip_digest.specs.declared.algorithm.Algorithm.{Algorithm}
use Rattle.sip_digest.specs.declared.algorithm.Algorithm.TheVariants.{Md5}
use Rattle.sip_digest.specs.Algorithm.{algorithm_named}
use Rattle.sip_digest.specs.AuthParam.{AuthParam, IsListed}

-- the quality of protection: none is said, `auth` with what comes with it, another one
pub data Quality : Type 0 where
  Unsaid : Quality
  Auth : (nc cnonce qop : List ℕ) → Quality
  Other : Quality

pub record Credentials : Type 0 where
  pub username : List ℕ
  pub nonce : List ℕ
  pub uri : List ℕ
  pub response : List ℕ
  -- none where it is another one
  pub algorithm : Option Algorithm
  pub quality : Quality

-- ---- parameters by their names

-- the value of the first of this name, in any case
abbrev pub first_named : List ℕ → List AuthParam → Option (List ℕ)
first_named name [] = None
first_named name (p ∷ ps) = if bytes_eq (str_to_ascii_lowercase p.name) name then Some p.value else first_named name ps

pub record Named : Type 0 where
  pub username : Option (List ℕ)
  pub realm : Option (List ℕ)
  pub nonce : Option (List ℕ)
  pub uri : Option (List ℕ)
  pub response : Option (List ℕ)
  pub algorithm : Option (List ℕ)
  pub qop : Option (List ℕ)
  pub nc : Option (List ℕ)
  pub cnonce : Option (List ℕ)

abbrev pub named_in : List AuthParam → Named
named_in ps = record {
  username = first_named (codes "username") ps;
  realm = first_named (codes "realm") ps;
  nonce = first_named (codes "nonce") ps;
  uri = first_named (codes "uri") ps;
  response = first_named (codes "response") ps;
  algorithm = first_named (codes "algorithm") ps;
  qop = first_named (codes "qop") ps;
  nc = first_named (codes "nc") ps;
  cnonce = first_named (codes "cnonce") ps;
}

-- ---- what they say

-- eight hexadecimal digits
abbrev pub is_count : List ℕ → Bool
is_count nc = length nc == 8 && list_all is_ascii_hexdigit nc

-- `auth` needs the count and the nonce of the client
abbrev pub protected : (qop : List ℕ) (nc cnonce : Option (List ℕ)) → Option Quality
protected qop (Some nc) (Some client_nonce) = if is_count nc then Some (Auth nc client_nonce qop) else None
protected qop _ _ = None

abbrev pub quality_of : (qop nc cnonce : Option (List ℕ)) → Option Quality
quality_of None _ _ = Some Unsaid
quality_of (Some qop) nc client_nonce = if bytes_eq (str_to_ascii_lowercase qop) (codes "auth") then protected qop nc client_nonce else Some Other

-- MD5 where none is named
abbrev pub algorithm_of : Option (List ℕ) → Option Algorithm
algorithm_of None = Some Md5
algorithm_of (Some name) = algorithm_named name

abbrev pub needed : (username nonce uri response : Option (List ℕ)) → Option Algorithm → Option Quality → Option Credentials
needed (Some username) (Some nonce) (Some uri) (Some response) algorithm (Some quality) =
    Some (record { username = username; nonce = nonce; uri = uri; response = response; algorithm = algorithm; quality = quality })
needed _ _ _ _ _ _ = None

-- the credentials of these parameters, where they have what is needed
abbrev pub credentials_of : Named → Option Credentials
credentials_of n = needed n.username n.nonce n.uri n.response (algorithm_of n.algorithm) (quality_of n.qop n.nc n.cnonce)

-- a list with a fault has none
abbrev pub credentials_in : List AuthParam → Bool → Option Credentials
credentials_in params whole = if whole then credentials_of (named_in params) else None

-- ---- of a realm

-- the scheme Digest and, up to the end or the first fault, parameters, of which `realm` is this realm (RFC 3261 section 22.1)
pub record IsOfRealm (value realm : List ℕ) (params : List AuthParam) (whole : Bool) : Type 0 where
  pub scheme : List ℕ
  pub space : ℕ
  pub text : List ℕ
  pub spelled : value ≡ scheme ++ space ∷ text
  pub digest : str_to_ascii_lowercase scheme ≡ codes "digest"
  -- the first space ends the scheme
  pub no_space : AllByRecursion (λ b. is_space b ≡ false) scheme
  pub is_space_behind : is_space space ≡ true
  pub listed : IsListed (Some text) params whole
  pub realm_is : first_named (codes "realm") params ≡ Some realm
