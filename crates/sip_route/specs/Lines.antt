-- Header lines taken from a message, or made (RFC 3261 section 7.3).
use Rattle.std.specs.Prelude.{ℕ, Bool, List, map, take}
use Rattle.std.specs.List.{filter}
use Rattle.sip_text.specs.Name.{same_name, values_of}
use Rattle.sip_text.specs.Text.{HeaderText, MessageText}
use Rattle.sip_via.specs.Edits.{line}

abbrev pub has_name : List ℕ → HeaderText → Bool
has_name name h = same_name name h.name

-- the header lines of that name as they stand, in order
abbrev pub lines_among : List ℕ → List HeaderText → List HeaderText
lines_among name hs = filter (has_name name) hs

abbrev pub lines_named : List ℕ → MessageText → List HeaderText
lines_named name m = lines_among name m.headers

-- the first of them
abbrev pub first_line : List ℕ → MessageText → List HeaderText
first_line name m = take 1 (lines_named name m)

-- a line of another name for each header line of a name, with its value
abbrev pub lines_as : List ℕ → List ℕ → MessageText → List HeaderText
lines_as other name m = map (line other) (values_of name m.headers)
