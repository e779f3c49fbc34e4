-- Header lines of which some are changed or left out (RFC 3261 section 7.3).
use Rattle.std.specs.Prelude.{ℕ, ◌+◌, Bool, false, List, [], ◌∷◌, ◌++◌, Option, Some, None, if◌then◌else◌}
pub use Rattle.sip_text.specs.Change.{with_headers}
use Rattle.sip_text.specs.Name.{same_name}
use Rattle.sip_text.specs.Text.{HeaderText}

abbrev pub line : List ℕ → List ℕ → HeaderText
line name value = record { name = name; value = value }

-- a line of that name, if there is a value for it
abbrev pub line_if_any : List ℕ → Option (List ℕ) → List HeaderText
line_if_any name None = []
line_if_any name (Some value) = line name value ∷ []

-- the first line of that name has another value, or is left out
abbrev pub replaced : List ℕ → Option (List ℕ) → List HeaderText → List HeaderText
replaced name value [] = []
replaced name value (h ∷ hs) = if same_name name h.name then line_if_any h.name value ++ hs else h ∷ replaced name value hs

-- the first line has another value, or is left out
abbrev pub changed_first : Option (List ℕ) → List HeaderText → List HeaderText
changed_first value [] = []
changed_first value (h ∷ hs) = line_if_any h.name value ++ hs

-- the first line has that name
abbrev pub begins_named : List ℕ → List HeaderText → Bool
begins_named name [] = false
begins_named name (h ∷ hs) = same_name name h.name

-- how many lines stand before the first of that name
abbrev pub place_of : List ℕ → List HeaderText → ℕ
place_of name [] = 0
place_of name (h ∷ hs) = if same_name name h.name then 0 else 1 + place_of name hs
