-- The first CR or LF of a text, and the line before it.
use Rattle.std.specs.Prelude.{ℕ, Bool, ◌||◌, ◌&&◌, ◌==◌, List, [], ◌∷◌, take, drop, Option, Some, None, if◌then◌else◌}

abbrev pub is_end : ℕ → Bool
is_end b = b == 13 || b == 10

-- what stands before a CR and an LF, and what stands behind them
abbrev pub before_end : List ℕ → List ℕ → Option (List ℕ × List ℕ)
before_end line [] = None
before_end line (b ∷ []) = None
before_end line (b ∷ c ∷ after) = if b == 13 && c == 10 then Some (line, after) else None

-- the line before the end at this place
abbrev pub line_before : Option ℕ → List ℕ → Option (List ℕ × List ℕ)
line_before None text = None
line_before (Some at) text = before_end (take at text) (drop at text)
