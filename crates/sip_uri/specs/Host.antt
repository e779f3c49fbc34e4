-- Hosts, ports and IPv4 addresses (RFC 3261 section 25.1: hostport).
use Rattle.std.specs.Prelude.{◌≡◌, ◌≢◌, ℕ, ◌+◌, ◌<◌, ◌≤◌, Bool, false, ◌||◌, ◌&&◌, not, List, [], ◌∷◌, ◌++◌, length, Option, Some, None, IsTrue, nat_le, nat_lt, ◌==◌, if◌then◌else◌, ◌⊎◌}
use Rattle.std.specs.Char.{is_ascii_alphanumeric, is_ascii_hexdigit}
use Rattle.std.specs.List.{list_all}
use Rattle.sip_lex.specs.Cut.{cut, is}
use Rattle.sip_lex.specs.Number.{is_number, number}
use Rattle.sip_lex.specs.Pieces.{pieces}

-- ---- hosts

-- a letter, a digit, `-` or `.`
abbrev pub is_host_byte : ℕ → Bool
is_host_byte b = is_ascii_alphanumeric b || b == 45 || b == 46

-- a hexadecimal digit, `:` or `.`
abbrev pub is_address_byte : ℕ → Bool
is_address_byte b = is_ascii_hexdigit b || b == 58 || b == 46

-- a name, or an IPv4 address
abbrev pub IsHostname : List ℕ → Type 0
IsHostname host = (host ≢ []) × IsTrue (list_all is_host_byte host)

-- an address in square brackets
abbrev pub IsReference : List ℕ → Type 0
IsReference host = (inner : List ℕ) × (host ≡ 91 ∷ (inner ++ 93 ∷ [])) × (inner ≢ []) × IsTrue (list_all is_address_byte inner)

abbrev pub IsHost : List ℕ → Type 0
IsHost host = IsHostname host ⊎ IsReference host

-- the same as a test
abbrev pub is_reference : List ℕ × Option (List ℕ) → Bool
is_reference (inner, Some []) = nat_lt 0 (length inner) && list_all is_address_byte inner
is_reference _ = false

abbrev pub is_host : List ℕ → Bool
is_host [] = false
is_host (b ∷ bs) = if b == 91 then is_reference (cut (is 93) bs) else list_all is_host_byte (b ∷ bs)

-- where the host ends: at the first `:`, `;` or `?` outside square brackets
abbrev pub ends_host : ℕ → Bool
ends_host b = b == 58 || b == 59 || b == 63

abbrev pub host_len : Bool → List ℕ → ℕ
host_len inside [] = 0
host_len inside (b ∷ bs) = if not inside && ends_host b then 0 else 1 + host_len (if inside then not (b == 93) else b == 91) bs

-- none of these stands outside square brackets
abbrev pub LacksEnds : Bool → List ℕ → Type 0
LacksEnds inside [] = Unit {0}
LacksEnds inside (b ∷ bs) = (not inside && ends_host b ≡ false) × LacksEnds (if inside then not (b == 93) else b == 91) bs

-- nothing, or what begins with one of these
abbrev pub BeginsWithEnd : List ℕ → Type 0
BeginsWithEnd [] = Unit {0}
BeginsWithEnd (b ∷ bs) = IsTrue (ends_host b)

-- ---- ports

-- one to five digits of a number from 1 to 65535
pub record IsPort (port : List ℕ) : Type 0 where
  pub digits : IsTrue (is_number port)
  pub short : length port ≤ 5
  pub positive : 0 < number port
  pub within : number port ≤ 65535

abbrev pub is_port : List ℕ → Bool
is_port digits = nat_le (length digits) 5 && is_number digits && nat_lt 0 (number digits) && nat_le (number digits) 65535

abbrev pub port_of : List ℕ → Option ℕ
port_of digits = if is_port digits then Some (number digits) else None

-- ---- IPv4 addresses

-- one to three digits of a number up to 255
abbrev pub is_octet : List ℕ → Bool
is_octet digits = nat_le (length digits) 3 && is_number digits && nat_le (number digits) 255

abbrev pub octet_of : List ℕ → Option ℕ
octet_of digits = if is_octet digits then Some (number digits) else None

abbrev pub four_of : Option ℕ → Option ℕ → Option ℕ → Option ℕ → Option (List ℕ)
four_of (Some a) (Some b) (Some c) (Some d) = Some (a ∷ b ∷ c ∷ d ∷ [])
four_of _ _ _ _ = None

abbrev pub address_of_pieces : List (List ℕ) → Option (List ℕ)
address_of_pieces (a ∷ b ∷ c ∷ d ∷ []) = four_of (octet_of a) (octet_of b) (octet_of c) (octet_of d)
address_of_pieces _ = None

-- the four numbers of an address in dotted form
abbrev pub address_of : List ℕ → Option (List ℕ)
address_of host = address_of_pieces (pieces 46 host)
