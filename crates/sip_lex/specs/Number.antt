-- Decimal numbers (1*DIGIT of RFC 3261 section 25.1).
use Rattle.std.specs.Prelude.{ℕ, ◌+◌, ◌-◌, ◌*◌, ◌^◌, Bool, false, ◌&&◌, List, [], ◌∷◌, length, fold, Option, Some, None, nat_lt, nat_le, ◌==◌, if◌then◌else◌}
use Rattle.std.specs.Char.{is_ascii_digit}
use Rattle.std.specs.List.{list_all}

-- a number with one more digit
abbrev pub with_digit : ℕ → ℕ → ℕ
with_digit n d = 10 * n + (d - 48)

-- the number that digits spell
abbrev pub number : List ℕ → ℕ
number ds = fold with_digit 0 ds

abbrev pub is_number : List ℕ → Bool
is_number ds = nat_lt 0 (length ds) && list_all is_ascii_digit ds

-- the number of one or more digits, where it is within the limit
abbrev pub number_within : ℕ → List ℕ → Option ℕ
number_within limit ds = if is_number ds && nat_le (number ds) limit then Some (number ds) else None

abbrev pub begins_with_zero : List ℕ → Bool
begins_with_zero [] = false
begins_with_zero (d ∷ ds) = d == 48

-- the same without a leading zero, but for the one digit 0
abbrev pub plain_number_within : ℕ → List ℕ → Option ℕ
plain_number_within limit ds = if nat_lt 1 (length ds) && begins_with_zero ds then None else number_within limit ds

-- the number of one to nine digits
abbrev pub length_number : List ℕ → Option ℕ
length_number value = if nat_le (length value) 9 then number_within (10 ^ 9 - 1) value else None
