-- Hexadecimal digits in lower case (LHEX of RFC 3261 section 25.1).
use Rattle.std.specs.Prelude.{ℕ, ◌+◌, nat_lt, if◌then◌else◌}

-- `0` to `9` for the values below ten, then `a` to `f`
abbrev pub hex_digit : ℕ → ℕ
hex_digit value = if nat_lt value 10 then 48 + value else 87 + value
