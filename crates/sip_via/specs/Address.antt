-- IPv4 addresses in dotted decimal (RFC 3261 section 25.1: IPv4address).
use Rattle.std.specs.Prelude.{ℕ, ◌<◌, ◌^◌, List, ◌∷◌, ◌++◌, slice_index}
use Rattle.std.specs.Fmt.{decimal}

-- a number behind a dot
abbrev pub dotted : ℕ → List ℕ
dotted n = 46 ∷ decimal n

abbrev pub address_text : List ℕ → List ℕ
address_text addr = decimal (slice_index addr 0) ++ (dotted (slice_index addr 1) ++ (dotted (slice_index addr 2) ++ dotted (slice_index addr 3)))

-- numbers that 64 bits hold
pub record IsAddress (addr : List ℕ) : Type 0 where
  pub first : slice_index addr 0 < 2 ^ 64
  pub second : slice_index addr 1 < 2 ^ 64
  pub third : slice_index addr 2 < 2 ^ 64
  pub fourth : slice_index addr 3 < 2 ^ 64
