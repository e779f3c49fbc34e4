-- What tells two passes of one request apart (RFC 3261 sections 16.3 step 4 and 16.6 step 8). Which
-- fields are taken is this proxy's choice.
-- Here: what no public contract reaches.
use Rattle.std.specs.Prelude.{ℕ, Bool, ◌||◌, ◌==◌, List, ◌∷◌, codes, length, if◌then◌else◌}
use Rattle.std.specs.List.{flat_map}
use Rattle.sip_text.specs.Name.{same_name}
use Rattle.sip_text.specs.Text.{HeaderText}

abbrev pub behind_comma : List ℕ → List ℕ
behind_comma value = 44 ∷ value

-- values, a comma before each
abbrev pub behind_commas : List (List ℕ) → List ℕ
behind_commas values = flat_map behind_comma values

-- a header line whose name is as long as that of a line that says how a request is routed
abbrev pub may_route : HeaderText → Bool
may_route h = if length h.name == 5 then same_name (codes "route") h.name else (length h.name == 1 || length h.name == 13 || length h.name == 19)
