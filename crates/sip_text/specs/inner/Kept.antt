-- A message by the text that it lies in.
use Rattle.std.specs.Prelude.{◌≡◌, ℕ, List, drop, length, take}
use Rattle.sip_text.specs.declared.place.LinePlaces.{LinePlaces}
use Rattle.sip_lex.specs.declared.place.PartPlace.{PartPlace}
use Rattle.sip_text.specs.declared.place.StartPlaces.{StartPlaces}
use Rattle.sip_text.specs.declared.place.StartPlaces.TheVariants.{Request, Response}
use Rattle.sip_text.specs.Message.{IsMessage}
use Rattle.sip_text.specs.Seen.{headers_in, start_in}
use Rattle.sip_lex.specs.Places.{IsWithin, moved, part_at}
use Rattle.sip_text.specs.Text.{MessageText}
pub use Rattle.sip_text.specs.inner.Within.{AreLinesWithin, IsLineWithin}

-- the part stands in the text from a place on
abbrev pub IsAt : List ℕ → ℕ → List ℕ → Type 0
IsAt text at part = take (length part) (drop at text) ≡ part

abbrev pub IsStartWithin : ℕ → StartPlaces → Type 0
IsStartWithin room (Request method uri) = IsWithin room method × IsWithin room uri
IsStartWithin room (Response status reason) = IsWithin room reason

-- ---- places in a line, as places in the text that it stands in

abbrev pub line_moved : ℕ → LinePlaces → LinePlaces
line_moved by line = record { name = moved by line.name; value = moved by line.value }

abbrev pub start_moved : ℕ → StartPlaces → StartPlaces
start_moved by (Request method uri) = Request (moved by method) (moved by uri)
start_moved by (Response status reason) = Response status (moved by reason)

-- ---- the message

-- the message of these places of a text
abbrev pub placed_message : List ℕ → StartPlaces → List LinePlaces → PartPlace → MessageText
placed_message text start lines body = record { start = start_in text start; headers = headers_in text lines; body = part_at text body }

-- all places lie within the text, and it is a message
pub record IsKept (text : List ℕ) (start : StartPlaces) (lines : List LinePlaces) (body : PartPlace) : Type 0 where
  pub start_within : IsStartWithin (length text) start
  pub lines_within : AreLinesWithin (length text) lines
  pub body_within : IsWithin (length text) body
  pub message : IsMessage (placed_message text start lines body)
