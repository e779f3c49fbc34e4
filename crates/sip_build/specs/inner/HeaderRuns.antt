-- What the header lines of a message that is written are made of.
use Rattle.std.specs.Prelude.{ℕ, ◌<◌, List, [], ◌∷◌, ◌++◌, map, codes, Option, Some, None, if◌then◌else◌}
use Rattle.std.specs.List.{flat_map}
use Rattle.sip_text.specs.Name.{same_name}
use Rattle.sip_text.specs.Seen.{view_lines, views}
use Rattle.sip_text.specs.Text.{HeaderText, MessageText, StartText}
use Rattle.sip_text.specs.Text as text
use Rattle.sip_via.specs.Edits.{line}
use Rattle.sip_build.specs.declared.runs.Pick.{Pick}
use Rattle.sip_build.specs.declared.runs.Pick.TheVariants.{Named, Others, Renamed}
use Rattle.sip_build.specs.declared.runs.HeaderRun.{HeaderRun}
use Rattle.sip_build.specs.declared.runs.HeaderRun.TheVariants.{NoLine, Kept, Spelled, Picked, Line, Joined, Contacts, Challenges, Further, SeventyHops, NoBody, From, To, CallId}
use Rattle.sip_build.specs.declared.made_text.Front.{Front}
use Rattle.sip_build.specs.declared.made_text.Front.TheVariants.{Request, Response}
use Rattle.sip_build.specs.SeenKept.{texts}
use Rattle.sip_build.specs.inner.Texts.{lines_text}
use Rattle.sip_lex.specs.Line.{ended}
use Rattle.sip_build.specs.Upward.{challenge_line, contact_lines}

-- the name that a header line is written under, if it is written
abbrev pub picked_name : Pick → HeaderText → Option (List ℕ)
picked_name (Named name) h = if same_name name.now h.name then Some h.name else None
picked_name (Others name) h = if same_name name.now h.name then None else Some h.name
picked_name (Renamed name other) h = if same_name name.now h.name then Some other.now else None

abbrev pub under : List ℕ → Option (List ℕ) → List HeaderText
under value None = []
under value (Some name) = line name value ∷ []

abbrev pub picked : Pick → HeaderText → List HeaderText
picked pick h = under h.value (picked_name pick h)

abbrev pub lines_of : {A : Type 0} → HeaderRun A → List HeaderText
lines_of NoLine = []
lines_of (Kept hs) = views hs
lines_of (Spelled spelled) = views spelled.lines
lines_of (Picked hs pick) = flat_map (picked pick) (views hs)
lines_of (Line name value) = line name.now value.now ∷ []
lines_of (Joined name a b d) = line name.now (a.now ++ (b.now ++ d.now)) ∷ []
lines_of (Contacts kept) = contact_lines (texts kept.now)
lines_of (Challenges challenges) = map challenge_line challenges.now
lines_of (Further lines) = view_lines lines.now
lines_of SeventyHops = line (codes "Max-Forwards") (codes "70") ∷ []
lines_of NoBody = line (codes "Content-Length") (codes "0") ∷ []
lines_of (From value) = line (codes "From") value.now ∷ []
lines_of (To value) = line (codes "To") value.now ∷ []
lines_of (CallId value) = line (codes "Call-ID") value.now ∷ []

abbrev pub all_lines : {A : Type 0} → List (HeaderRun A) → List HeaderText
all_lines runs = flat_map lines_of runs

abbrev pub start_of : Front → StartText
start_of (Request method uri) = text.Request method.now uri.now
start_of (Response status reason) = text.Response status reason.now

-- a status has three digits
abbrev pub IsFront : Front → Type 0
IsFront (Request method uri) = Unit {0}
IsFront (Response status reason) = status < 1000

-- the message of a start line, header lines and a body
abbrev pub made_of : {A : Type 0} → Front → List (HeaderRun A) → List ℕ → MessageText
made_of front runs body = record { start = start_of front; headers = all_lines runs; body = body }

-- what stands behind the start line of a message of these header lines and that body
abbrev pub tail_text : {A : Type 0} → List (HeaderRun A) → List ℕ → List ℕ
tail_text runs body = flat_map (λ g. lines_text (lines_of g)) runs ++ (ended [] ++ body)
