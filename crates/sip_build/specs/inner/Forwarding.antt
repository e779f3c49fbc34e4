-- A request as it goes to a target (RFC 3261 section 16.6).
-- Here: what no public contract reaches.
use Rattle.std.specs.Prelude.{ℕ, ◌-◌, List, Option, Some, None}
use Rattle.sip_lex.specs.Number.{number}

-- one hop fewer than the first Max-Forwards value allows, or seventy
abbrev pub hops_left : Option (List ℕ) → ℕ
hops_left None = 70
hops_left (Some value) = number value - 1
