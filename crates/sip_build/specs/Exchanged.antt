-- Header lines in the place of all those of a name (RFC 3261 section 7.3).
use Rattle.std.specs.Prelude.{ℕ, Bool, not, List, [], ◌∷◌, ◌++◌, filter, if◌then◌else◌}
use Rattle.sip_text.specs.Name.{same_name}
use Rattle.sip_text.specs.Text.{HeaderText}

abbrev pub is_other : List ℕ → HeaderText → Bool
is_other name h = not (same_name name h.name)

-- other lines in the place of all those of that name: where the first stood, or at the end
abbrev pub exchanged : List ℕ → List HeaderText → List HeaderText → List HeaderText
exchanged name lines [] = lines
exchanged name lines (h ∷ hs) = if same_name name h.name then lines ++ filter (is_other name) hs else h ∷ exchanged name lines hs
