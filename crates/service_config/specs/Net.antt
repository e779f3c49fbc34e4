-- Nets of IPv4 addresses: an address, and how many of its first bits count (RFC 4632 section 3.1).
use Rattle.std.specs.Prelude.{◌≡◌, ◌≤◌, ◌==◌, ℕ, ◌+◌, ◌-◌, ◌*◌, ◌/◌, ◌%◌, ◌^◌, Bool, List, [], ◌∷◌, ◌++◌, length, slice_index}
use Rattle.std.specs.Fmt.{decimal}
use Rattle.std.specs.List.{AllByRecursion}
use Rattle.sip_via.specs.Address.{address_text}
use Rattle.service_config.specs.declared.net.Net.{Net}

-- the number that the four bytes of an address make
abbrev pub address_number : List ℕ → ℕ
address_number addr = slice_index addr 0 * 16777216 + slice_index addr 1 * 65536 + slice_index addr 2 * 256 + slice_index addr 3

-- how many addresses have the same first bits
abbrev pub block : ℕ → ℕ
block bits = 2 ^ (32 - bits)

-- the address has the first bits of the net
abbrev pub has : Net → List ℕ → Bool
has net addr = address_number addr / block net.bits == address_number net.addr / block net.bits

-- how a net is written: all bits behind the first are 0
pub record IsNet (net : Net) : Type 0 where
  pub four : length net.addr ≡ 4
  pub bytes : AllByRecursion (λ byte. byte ≤ 255) net.addr
  pub bits : net.bits ≤ 32
  pub plain : address_number net.addr % block net.bits ≡ 0

abbrev pub net_text : Net → List ℕ
net_text net = address_text net.addr ++ 47 ∷ decimal net.bits

-- this machine (RFC 1122 section 3.2.1.3)
abbrev pub loopback : Net
loopback = record { addr = 127 ∷ 0 ∷ 0 ∷ 0 ∷ []; bits = 8 }
