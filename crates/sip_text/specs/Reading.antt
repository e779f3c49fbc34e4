-- Reading the start line and the header lines, as functions (RFC 3261 sections 7.1 to 7.3).
use Rattle.std.specs.Prelude.{ℕ, ◌+◌, ◌-◌, ◌*◌, Bool, ◌&&◌, List, [], ◌∷◌, ◌++◌, length, take, Option, Some, None, Result, Ok, Err, nat_lt, nat_le, if◌then◌else◌, codes}
use Rattle.std.specs.Char.{is_ascii_digit}
use Rattle.std.specs.List.{list_all, flat_map}
use Rattle.std.specs.Str.{bytes_eq, str_to_ascii_lowercase}
use Rattle.sip_lex.specs.Bytes.{is_printed, is_space, is_token, trim, trim_end}
use Rattle.sip_lex.specs.Cut.{cut, is}
use Rattle.sip_lex.specs.Line.{line_in}
use Rattle.sip_lex.specs.Pieces.{pieces}
use Rattle.sip_lex.specs.Values.{begins_with_space}
use Rattle.sip_text.specs.Text.{HeaderText, StartText, Request, Response}
use Rattle.sip_text.specs.declared.needed.MandatoryHeader.{MandatoryHeader}
use Rattle.sip_text.specs.Text.{MessageText}

-- what is wrong with a text
pub data Fault : Type 0 where
  BadStart : Fault
  BadHeader : Fault
  Lacks : MandatoryHeader → Fault
  BadVersion : Fault
  BadStatus : Fault
  Short : MessageText → Fault
  BadCSeq : Fault
  BadLength : Fault

-- ---- the start line

abbrev pub begins_with_sip : List ℕ → Bool
begins_with_sip text = bytes_eq (str_to_ascii_lowercase (take 4 text)) (codes "sip/")

abbrev pub is_version : List ℕ → Bool
is_version text = bytes_eq (str_to_ascii_lowercase text) (codes "sip/2.0")

-- printed bytes, and one at least
abbrev pub is_uri : List ℕ → Bool
is_uri bs = nat_lt 0 (length bs) && list_all is_printed bs

abbrev pub is_status : ℕ → Bool
is_status n = nat_le 100 n && nat_le n 699

-- the number of three digits
abbrev pub number_of : ℕ → ℕ → ℕ → ℕ
number_of a b c = 100 * (a - 48) + 10 * (b - 48) + (c - 48)

-- three digits, a space and a reason
abbrev pub status_of : List ℕ → Result StartText Fault
status_of (a ∷ b ∷ c ∷ s ∷ reason) =
    if is_ascii_digit a && is_ascii_digit b && is_ascii_digit c && is_space s
    then (if is_status (number_of a b c) then Ok (Response (number_of a b c) reason) else Err BadStatus)
    else Err BadStart
status_of _ = Err BadStart

abbrev pub after_version : Option (List ℕ) → Result StartText Fault
after_version None = Err BadStart
after_version (Some rest) = status_of rest

-- the version stands before the first space
abbrev pub response_of : List ℕ × Option (List ℕ) → Result StartText Fault
response_of (version, rest) = if is_version version then after_version rest else Err BadVersion

-- and in a request behind the second one
abbrev pub after_uri : List ℕ → List ℕ × Option (List ℕ) → Result StartText Fault
after_uri method (uri, None) = Err BadStart
after_uri method (uri, Some version) =
    if is_version version then (if is_token method && is_uri uri then Ok (Request method uri) else Err BadStart)
    else (if begins_with_sip version then Err BadVersion else Err BadStart)

abbrev pub request_of : List ℕ × Option (List ℕ) → Result StartText Fault
request_of (method, None) = Err BadStart
request_of (method, Some rest) = after_uri method (cut is_space rest)

unfoldable pub start_of : List ℕ → Result StartText Fault
start_of line = if begins_with_sip line then response_of (cut is_space line) else request_of (cut is_space line)

-- ---- the lines up to the empty one, and the pieces between line feeds that stand behind it

abbrev pub Lines : Type 0
Lines = List (List ℕ) × List (List ℕ)

abbrev pub with_line : List ℕ → Option Lines → Option Lines
with_line line None = None
with_line line (Some later) = Some (line ∷ later.0, later.1)

abbrev pub lines_from : Option (List ℕ) → Option Lines → List (List ℕ) → Option Lines
lines_from None later behind = None
lines_from (Some []) later behind = Some ([], behind)
lines_from (Some (b ∷ bs)) later behind = with_line (b ∷ bs) later

unfoldable pub lines_at : List (List ℕ) → Option Lines
lines_at [] = None
lines_at (piece ∷ []) = None
lines_at (piece ∷ next ∷ more) = lines_from (line_in piece) (lines_at (next ∷ more)) (next ∷ more)

-- ---- lines as headers: a line that begins with space continues the header before it

abbrev pub part_text : List ℕ → List ℕ
part_text part = 32 ∷ part

-- a value and the parts that continue it, trimmed once more
abbrev pub joined : List ℕ → List (List ℕ) → List ℕ
joined value parts = trim (value ++ flat_map part_text parts)

abbrev pub header_of_cut : List ℕ × Option (List ℕ) → List (List ℕ) → Option HeaderText
header_of_cut (front, None) parts = None
header_of_cut (front, Some raw) parts = if is_token (trim_end front) then Some (record { name = trim_end front; value = joined (trim raw) parts }) else None

-- a name, a colon and a value, with the parts that continue it
abbrev pub header_of : List ℕ → List (List ℕ) → Option HeaderText
header_of line parts = header_of_cut (cut (is 58) line) parts

-- parts that continue what stands before them, and headers
abbrev pub Group : Type 0
Group = List (List ℕ) × List HeaderText

abbrev pub with_header : Option HeaderText → List HeaderText → Option Group
with_header None hs = None
with_header (Some h) hs = Some ([], h ∷ hs)

abbrev pub before_group : List ℕ → Option Group → Option Group
before_group line None = None
before_group line (Some later) = if begins_with_space line then Some (trim line ∷ later.0, later.1) else with_header (header_of line later.0) later.1

-- from the last line to the first
unfoldable pub grouped : List (List ℕ) → Option Group
grouped [] = Some ([], [])
grouped (line ∷ lines) = before_group line (grouped lines)

-- ---- the lines of a text as headers

-- what the lines of a text are, and the pieces behind the empty line
pub record Tail : Type 0 where
  pub parts : List (List ℕ)
  pub headers : List HeaderText
  pub rest : List (List ℕ)

abbrev pub tail_of_group : Option Group → List (List ℕ) → Option Tail
tail_of_group None rest = None
tail_of_group (Some g) rest = Some (record { parts = g.0; headers = g.1; rest = rest })

abbrev pub tail_of_lines : Option Lines → Option Tail
tail_of_lines None = None
tail_of_lines (Some lines) = tail_of_group (grouped lines.0) lines.1

unfoldable pub tail_at : List ℕ → Option Tail
tail_at text = tail_of_lines (lines_at (pieces 10 text))

abbrev pub Headers : Type 0
Headers = List HeaderText × List (List ℕ)

abbrev pub headers_of_tail : List (List ℕ) → Tail → Option Headers
headers_of_tail [] t = Some (t.headers, t.rest)
headers_of_tail (part ∷ parts) t = None

-- the first line continues nothing
abbrev pub closed : Option Tail → Option Headers
closed None = None
closed (Some t) = headers_of_tail t.parts t

-- the headers, and the pieces behind the empty line
unfoldable pub headers_at : List ℕ → Option Headers
headers_at text = closed (tail_at text)
