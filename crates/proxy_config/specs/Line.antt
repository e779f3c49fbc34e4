-- The lines of a configuration. Words are separated by one space, numbers are decimal without leading zeros.
use Rattle.std.specs.Prelude.{◌≡◌, ◌≤◌, ℕ, ◌&&◌, nat_le, bytes_eq, Bool, false, IsTrue, List, [], ◌∷◌, ◌++◌, length, codes}
use Rattle.std.specs.List.{list_all, AllByRecursion}
use Rattle.std.specs.Fmt.{decimal}
use Rattle.fork_model.specs.Table.{most_targets}
use Rattle.fork_rank.specs.Preferred.{IsPreferredList}
pub use Rattle.fork_rank.specs.Field.{is_visible}
use Rattle.fork_rank.specs.Field.{most_q, numbered_text}
use Rattle.fork_rank.specs.RuleLines.{prefer_text, depth_text}
use Rattle.sip_uri.specs.Host.{is_host}
use Rattle.sip_uri.specs.declared.hop.Transport.TheVariants.{Udp}
use Rattle.sip_via.specs.Address.{address_text}
use Rattle.sip_via.specs.declared.own.Own.{Own}

-- a location's URI stands as it is written
pub data Line : Type 0 where
  OwnLine : Own → Line
  InstanceLine : (instance : ℕ) → Line
  DomainLine : (host : List ℕ) → Line
  PreferLine : (statuses : List ℕ) → Line
  DepthLine : (depth : ℕ) → Line
  LocationLine : (user : List ℕ) (q : ℕ) (uri : List ℕ) → Line

-- an address and a port
abbrev pub own_text : Own → List ℕ
own_text own = address_text own.addr ++ 32 ∷ decimal own.port

-- how a line is spelled
abbrev pub line_text : Line → List ℕ
line_text (OwnLine own) = codes "own " ++ own_text own
line_text (InstanceLine instance) = codes "instance " ++ decimal instance
line_text (DomainLine host) = codes "domain " ++ host
line_text (PreferLine statuses) = prefer_text statuses
line_text (DepthLine depth) = depth_text depth
line_text (LocationLine user q uri) = codes "location " ++ (user ++ 32 ∷ numbered_text q uri)

abbrev pub most_port : ℕ
most_port = 65535

abbrev pub most_instance : ℕ
most_instance = 4294967295

-- the address of no host (RFC 1122 section 3.2.1.3): no answer could come back to it
abbrev pub no_host : List ℕ
no_host = 0 ∷ 0 ∷ 0 ∷ 0 ∷ []

-- four bytes that name a host, and a port; no line says the transport
pub record IsOwn (own : Own) : Type 0 where
  pub four : length own.addr ≡ 4
  pub bytes : AllByRecursion (λ byte. byte ≤ 255) own.addr
  pub host : bytes_eq own.addr no_host ≡ false
  pub port : 1 ≤ own.port
  pub port_within : own.port ≤ most_port
  pub transport : own.transport ≡ Udp

-- bytes that show, at least one
abbrev pub is_user : List ℕ → Bool
is_user user = nat_le 1 (length user) && list_all is_visible user

-- what the parts of a line have to be
abbrev pub IsLine : Line → Type 0
IsLine (OwnLine own) = IsOwn own
IsLine (InstanceLine instance) = instance ≤ most_instance
IsLine (DomainLine host) = IsTrue (is_host host)
IsLine (PreferLine statuses) = IsPreferredList statuses
IsLine (DepthLine depth) = depth ≤ most_targets
IsLine (LocationLine user q uri) = IsTrue (is_user user) × (q ≤ most_q)
