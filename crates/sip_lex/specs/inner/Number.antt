-- Decimal numbers (1*DIGIT of RFC 3261 section 25.1).
-- Here: what no public contract reaches.
use Rattle.std.specs.Prelude.{ℕ, ◌^◌, List, Option, Some, None, nat_lt, if◌then◌else◌}
use Rattle.std.specs.Char.{is_ascii_digit}
use Rattle.std.specs.List.{list_all}
use Rattle.sip_lex.specs.Number.{number, with_digit}

abbrev pub below : ℕ → ℕ → Option ℕ
below bound n = if nat_lt n bound then Some n else None

-- a number of 64 bits with one more digit, where the byte is one
abbrev pub with_digit_if_one : ℕ → ℕ → Option ℕ
with_digit_if_one n d = if is_ascii_digit d then below (2 ^ 64) (with_digit n d) else None

-- the number of 64 bits that a text of digits spells
abbrev pub number_if_digits : List ℕ → Option ℕ
number_if_digits ds = if list_all is_ascii_digit ds then below (2 ^ 64) (number ds) else None
