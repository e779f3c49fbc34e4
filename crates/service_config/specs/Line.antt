-- The lines of a service's configuration. Words are separated by one space, numbers are decimal without leading zeros.
use Rattle.std.specs.Prelude.{◌≡◌, ◌≤◌, ℕ, ◌&&◌, ◌||◌, ◌==◌, not, nat_le, Bool, true, false, List, [], ◌∷◌, ◌++◌, length, Option, Some, None, codes}
use Rattle.std.specs.Fmt.{decimal}
use Rattle.std.specs.List.{list_all}
use Rattle.std.specs.Option.{option_map}
use Rattle.sip_lex.specs.Cut.{Lacks, behind}
use Rattle.fork_rank.specs.Field.{is_visible, most_q, numbered_text}
use Rattle.sip_digest.specs.declared.algorithm.Algorithms.{Algorithms}
use Rattle.sip_digest.specs.declared.algorithm.Algorithms.TheVariants as algorithms
use Rattle.proxy_config.specs.Line as setup
use Rattle.service_config.specs.Net.{IsNet, net_text}
use Rattle.service_config.specs.declared.expirations.Expirations.{Expirations}
use Rattle.service_config.specs.declared.net.Net.{Net}

-- a URI stands as it is written
pub data Line : Type 0 where
  -- own, instance, domain, prefer and depth, as in the text of a setup
  SetupLine : setup.Line → Line
  RingLine : (seconds : ℕ) → Line
  -- requests that are too large for datagrams go over TCP
  LargeLine : Line
  RealmLine : (realm : List ℕ) (algorithms : Option Algorithms) → Line
  ExpiresLine : Expirations → Line
  StrangersLine : Line
  TrustLine : Net → Line
  GatewayLine : (q : ℕ) (uri : List ℕ) → Line
  LocationLine : (user : List ℕ) (q : ℕ) (uri : List ℕ) (seconds : Option ℕ) → Line
  -- an empty line, and one that begins with `#`
  CommentLine : (text : List ℕ) → Line

-- ---- how a line is spelled

abbrev pub algorithms_text : Algorithms → List ℕ
algorithms_text algorithms.Md5 = codes "MD5"
algorithms_text algorithms.Sha256 = codes "SHA-256"
algorithms_text algorithms.Sha256AndMd5 = codes "SHA-256,MD5"
algorithms_text algorithms.Md5AndSha256 = codes "MD5,SHA-256"

abbrev pub expirations_text : Expirations → List ℕ
expirations_text times = decimal times.least ++ 32 ∷ (decimal times.usual ++ 32 ∷ decimal times.most)

abbrev pub line_text : Line → List ℕ
line_text (SetupLine line) = setup.line_text line
line_text (RingLine seconds) = codes "ring " ++ decimal seconds
line_text LargeLine = codes "large tcp"
line_text (RealmLine realm algorithms) = codes "realm " ++ (realm ++ behind 32 (option_map algorithms_text algorithms))
line_text (ExpiresLine times) = codes "expires " ++ expirations_text times
line_text StrangersLine = codes "strangers"
line_text (TrustLine net) = codes "trust " ++ net_text net
line_text (GatewayLine q uri) = codes "gateway " ++ numbered_text q uri
line_text (LocationLine user q uri seconds) = setup.line_text (setup.LocationLine user q (uri ++ behind 32 (option_map decimal seconds)))
line_text (CommentLine text) = text

-- ---- what may stand in a line

abbrev pub most_ring : ℕ
most_ring = 181

-- a week, in seconds
abbrev pub most_expiration : ℕ
most_expiration = 604800

-- visible, and neither `"` nor `\`, so that it stands between quotes as it is (RFC 3261 section 25.1)
abbrev pub is_realm_byte : ℕ → Bool
is_realm_byte b = is_visible b && not (b == 34 || b == 92)

abbrev pub is_realm : List ℕ → Bool
is_realm text = (nat_le 1 (length text) && nat_le (length text) 64) && list_all is_realm_byte text

-- 1 <= least <= usual <= most <= a week
abbrev pub are_expirations : ℕ → ℕ → ℕ → Bool
are_expirations least usual most = (nat_le 1 least && nat_le least usual) && nat_le usual most

pub record AreExpirations (times : Expirations) : Type 0 where
  pub rising : are_expirations times.least times.usual times.most ≡ true
  pub within : times.most ≤ most_expiration

abbrev pub IsRing : ℕ → Type 0
IsRing seconds = (1 ≤ seconds) × (seconds ≤ most_ring)

abbrev pub IsRingIfAny : Option ℕ → Type 0
IsRingIfAny None = Unit {0}
IsRingIfAny (Some seconds) = IsRing seconds

abbrev pub is_location : setup.Line → Bool
is_location (setup.LocationLine user q uri) = true
is_location _ = false

-- it is empty, or begins with `#`
abbrev pub says_nothing : List ℕ → Bool
says_nothing [] = true
says_nothing (b ∷ bs) = b == 35

abbrev pub is_no_lf : ℕ → Bool
is_no_lf b = not (b == 10)

pub record IsLocationLine (user : List ℕ) (q : ℕ) (uri : List ℕ) (seconds : Option ℕ) : Type 0 where
  pub user_is : setup.is_user user ≡ true
  pub q_within : q ≤ most_q
  pub word : Lacks 32 uri
  pub ring : IsRingIfAny seconds

abbrev pub HasParts : Line → Type 0
HasParts (SetupLine line) = setup.IsLine line × (is_location line ≡ false)
HasParts (RingLine seconds) = IsRing seconds
HasParts LargeLine = Unit {0}
HasParts (RealmLine realm algorithms) = is_realm realm ≡ true
HasParts (ExpiresLine times) = AreExpirations times
HasParts StrangersLine = Unit {0}
HasParts (TrustLine net) = IsNet net
HasParts (GatewayLine q uri) = q ≤ most_q
HasParts (LocationLine user q uri seconds) = IsLocationLine user q uri seconds
HasParts (CommentLine text) = says_nothing text ≡ true

-- its parts are what they have to be, and no LF stands in it
pub record IsLine (line : Line) : Type 0 where
  pub parts : HasParts line
  pub within : Lacks 10 (line_text line)
