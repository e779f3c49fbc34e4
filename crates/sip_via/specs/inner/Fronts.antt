-- A text behind what it begins with.
use Rattle.std.specs.Prelude.{ℕ, Bool, true, false, List, [], ◌∷◌, length, take, drop, Option, Some, None, ◌==◌, if◌then◌else◌, slice_index}
use Rattle.std.specs.Fmt.{decimal}
use Rattle.std.specs.Str.{bytes_eq}

abbrev pub behind_text : List ℕ → List ℕ → Option (List ℕ)
behind_text front text = if bytes_eq (take (length front) text) front then Some (drop (length front) text) else None

-- behind a number
abbrev pub behind_number : ℕ → List ℕ → Option (List ℕ)
behind_number n text = behind_text (decimal n) text

-- behind a mark and a number
abbrev pub behind_marked : ℕ → ℕ → Option (List ℕ) → Option (List ℕ)
behind_marked mark n None = None
behind_marked mark n (Some []) = None
behind_marked mark n (Some (b ∷ bs)) = if b == mark then behind_number n bs else None

abbrev pub is_end : Option (List ℕ) → Bool
is_end None = false
is_end (Some []) = true
is_end (Some (b ∷ bs)) = false

-- behind four numbers with dots between them
abbrev pub behind_address : List ℕ → List ℕ → Option (List ℕ)
behind_address addr text = behind_marked 46 (slice_index addr 3) (behind_marked 46 (slice_index addr 2) (behind_marked 46 (slice_index addr 1) (behind_number (slice_index addr 0) text)))

-- the text is these
abbrev pub is_address : List ℕ → List ℕ → Bool
is_address addr text = is_end (behind_address addr text)
