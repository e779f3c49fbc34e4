-- What lies in memory, as texts.
use Rattle.std.specs.Prelude.{ℕ, List, map}
use Rattle.sip_lex.specs.Places.{part_at}
use Rattle.sip_text.specs.declared.header_lines.HeaderLines.{HeaderLines}
use Rattle.sip_text.specs.declared.parts.CSeqLine.{CSeqLine}
use Rattle.sip_text.specs.declared.parts.HeaderLine.{HeaderLine}
use Rattle.sip_text.specs.declared.parts.StartLine.{StartLine}
use Rattle.sip_text.specs.declared.parts.StartLine.TheVariants as starts
use Rattle.sip_text.specs.declared.place.LinePlaces.{LinePlaces}
use Rattle.sip_text.specs.declared.place.StartPlaces.{StartPlaces}
use Rattle.sip_text.specs.declared.place.StartPlaces.TheVariants as places
use Rattle.sip_text.specs.Text.{HeaderText, StartText, Request, Response}
use Rattle.sip_text.specs.Fields.{CSeqText}

abbrev pub view_line : HeaderLine → HeaderText
view_line h = record { name = h.name.now; value = h.value.now }

abbrev pub view_lines : List HeaderLine → List HeaderText
view_lines hs = map view_line hs

abbrev pub view_start : StartLine → StartText
view_start (starts.Request method uri) = Request method.now uri.now
view_start (starts.Response status reason) = Response status reason.now

abbrev pub view_cseq : CSeqLine → CSeqText
view_cseq c = record { number = c.number; method = c.method.now }

-- ---- by places in a text

abbrev pub header_in : List ℕ → LinePlaces → HeaderText
header_in text places = record { name = part_at text places.name; value = part_at text places.value }

abbrev pub headers_in : List ℕ → List LinePlaces → List HeaderText
headers_in text places = map (header_in text) places

abbrev pub start_in : List ℕ → StartPlaces → StartText
start_in text (places.Request method uri) = Request (part_at text method) (part_at text uri)
start_in text (places.Response status reason) = Response status (part_at text reason)

-- header lines that stand one behind another
unfoldable pub views : HeaderLines → List HeaderText
views lines = headers_in lines.text.now lines.places.now
