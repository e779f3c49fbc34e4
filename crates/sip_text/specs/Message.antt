-- Reading a whole message, with the first fault; and what a message is (RFC 3261 sections 7, 8.1.1
-- and 18.3).
use Rattle.std.specs.Prelude.{◌≡◌, ℕ, Bool, true, false, ◌&&◌, List, [], ◌∷◌, length, map, take, Option, Some, None, Result, Ok, Err, ◌==◌, nat_le, if◌then◌else◌}
use Rattle.std.specs.List.{list_all, join_with_byte}
use Rattle.sip_lex.specs.Bytes.{is_token}
use Rattle.sip_lex.specs.Line.{line_at, skip_line_ends}
pub use Rattle.sip_lex.specs.Values.{is_line_byte, is_line, is_trimmed, is_value}
use Rattle.sip_text.specs.declared.fields.BodyLength.{BodyLength}
use Rattle.sip_text.specs.declared.fields.BodyLength.TheVariants.{Unsaid, Bytes, Wrong}
use Rattle.sip_text.specs.Fields.{cseq_fits, length_name, missing, said_length}
use Rattle.sip_text.specs.declared.needed.MandatoryHeader.{MandatoryHeader}
use Rattle.sip_text.specs.Name.{same_name}
use Rattle.sip_text.specs.Reading.{Fault, BadStart, BadHeader, Lacks, Short, BadCSeq, BadLength, Headers, headers_at, is_status, is_uri, start_of}
use Rattle.sip_text.specs.Text.{HeaderText, MessageText, StartText, Request, Response}

-- ---- what a message is

abbrev pub is_start : StartText → Bool
is_start (Request method uri) = is_token method && is_uri uri
is_start (Response status reason) = is_status status && is_line reason

abbrev pub is_header : HeaderText → Bool
is_header h = is_token h.name && is_value h.value

abbrev pub fits_body : BodyLength → ℕ → Bool
fits_body Unsaid n = true
fits_body (Bytes m) n = m == n
fits_body Wrong n = false

-- all of a message but its body
pub record IsHead (s : StartText) (hs : List HeaderText) : Type 0 where
  pub start : is_start s ≡ true
  pub headers : list_all is_header hs ≡ true
  pub needed : missing hs ≡ None
  pub cseq : cseq_fits s hs ≡ true

pub record IsMessage (m : MessageText) : Type 0 where
  pub head : IsHead m.start m.headers
  pub body : fits_body (said_length m.headers) (length m.body) ≡ true

-- ---- reading one

abbrev pub zeroed : HeaderText → HeaderText
zeroed h = if same_name length_name h.name then record { name = h.name; value = 48 ∷ [] } else h

-- the message with an empty body, each Content-Length saying so
abbrev pub head_of : StartText → List HeaderText → MessageText
head_of start hs = record { start = start; headers = map zeroed hs; body = [] }

-- the body is as long as was said, or goes to the end
unfoldable pub body_at : StartText → List HeaderText → List ℕ → BodyLength → Result MessageText Fault
body_at start hs rest Unsaid = Ok (record { start = start; headers = hs; body = rest })
body_at start hs rest (Bytes n) = if nat_le n (length rest) then Ok (record { start = start; headers = hs; body = take n rest }) else Err (Short (head_of start hs))
body_at start hs rest Wrong = Err BadLength

abbrev pub if_present : Option MandatoryHeader → Result MessageText Fault → Result MessageText Fault
if_present None read = read
if_present (Some name) read = Err (Lacks name)

-- the header fields that every message has, CSeq, Content-Length, the body
unfoldable pub checked : StartText → List HeaderText → List ℕ → Result MessageText Fault
checked start hs rest = if_present (missing hs) (if cseq_fits start hs then body_at start hs rest (said_length hs) else Err BadCSeq)

abbrev pub after_headers : StartText → Option Headers → Result MessageText Fault
after_headers start None = Err BadHeader
after_headers start (Some x) = checked start x.0 (join_with_byte 10 x.1)

abbrev pub after_start : Result StartText Fault → List ℕ → Result MessageText Fault
after_start (Err f) rest = Err f
after_start (Ok start) rest = after_headers start (headers_at rest)

abbrev pub after_line : Option (List ℕ × List ℕ) → Result MessageText Fault
after_line None = Err BadStart
after_line (Some (line, rest)) = after_start (start_of line) rest

-- the start line, the header lines, and all else
unfoldable pub read_at : List ℕ → Result MessageText Fault
read_at text = after_line (line_at (skip_line_ends text))
