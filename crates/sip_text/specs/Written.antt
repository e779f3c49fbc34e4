-- Header lines that stand in a text as they are written: name, colon, space, value, CRLF (RFC 3261 section 7.3.1).
use Rattle.std.specs.Prelude.{◌≡◌, ℕ, ◌+◌, ◌≤◌, List, [], ◌∷◌, length, slice_range, ⊤}
use Rattle.sip_text.specs.declared.header_lines.HeaderLines.{HeaderLines}
use Rattle.sip_text.specs.declared.place.LinePlaces.{LinePlaces}
use Rattle.sip_text.specs.Seen.{header_in}
use Rattle.sip_text.specs.Text.{header_text}

-- behind the CRLF that follows the value
abbrev pub line_end : LinePlaces → ℕ
line_end line = line.value.start + line.value.len + 2

-- the line stands so from a place on: with its name there, and its value behind the colon and the space
pub record IsWritten (text : List ℕ) (at : ℕ) (line : LinePlaces) : Type 0 where
  pub name : line.name.start ≡ at
  pub value : line.value.start ≡ at + line.name.len + 2
  pub within : line_end line ≤ length text
  pub spelled : slice_range text at (line_end line) ≡ header_text (header_in text line)

-- the lines do, one behind another
abbrev pub AreWritten : List ℕ → ℕ → List LinePlaces → Type 0
AreWritten text at [] = ⊤
AreWritten text at (line ∷ more) = IsWritten text at line × AreWritten text (line_end line) more

-- from some place of their message's text on
abbrev pub StandAsWritten : HeaderLines → Type 0
StandAsWritten lines = (at : ℕ) × AreWritten lines.text.now at lines.places.now
