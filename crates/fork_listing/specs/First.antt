-- The first place at which something does not hold.
use Rattle.std.specs.Prelude.{ℕ, ◌<◌, Option, Some, None}

abbrev pub HoldsBelow : (ℕ → Type 0) → ℕ → Type 0
HoldsBelow P bound = (n : ℕ) → n < bound → P n

-- the first of the places below the bound at which P does not hold; None where it holds at each
abbrev pub IsFirstToFail : (ℕ → Type 0) → ℕ → Option ℕ → Type 0
IsFirstToFail P bound None = HoldsBelow P bound
IsFirstToFail P bound (Some n) = (n < bound) × HoldsBelow P n × (P n → ⊥)
