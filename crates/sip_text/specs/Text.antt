-- Messages as texts, and how they are spelled (RFC 3261 sections 7 and 25.1).
use Rattle.std.specs.Prelude.{ℕ, ◌+◌, ◌/◌, ◌%◌, List, [], ◌∷◌, ◌++◌, Option, Some, None, codes}
use Rattle.std.specs.List.{flat_map}
use Rattle.sip_lex.specs.Line.{ended}

-- a header field: its name as received, its value without space at the ends
pub record HeaderText : Type 0 where
  pub name : List ℕ
  pub value : List ℕ

-- the first line: a request's (section 7.1) or a response's (section 7.2)
pub data StartText : Type 0 where
  Request : (method uri : List ℕ) → StartText
  Response : (status : ℕ) (reason : List ℕ) → StartText

pub record MessageText : Type 0 where
  pub start : StartText
  pub headers : List HeaderText
  pub body : List ℕ

-- the method of a request
abbrev pub method_in : StartText → Option (List ℕ)
method_in (Request method uri) = Some method
method_in (Response status reason) = None

-- the status of a response
abbrev pub status_in : StartText → Option ℕ
status_in (Request method uri) = None
status_in (Response status reason) = Some status

-- three digits
abbrev pub status_text : ℕ → List ℕ
status_text n = (48 + n / 100) ∷ (48 + n / 10 % 10) ∷ (48 + n % 10) ∷ []

abbrev pub start_line : StartText → List ℕ
start_line (Request method uri) = method ++ (32 ∷ (uri ++ codes " SIP/2.0"))
start_line (Response status reason) = codes "SIP/2.0 " ++ (status_text status ++ (32 ∷ reason))

abbrev pub header_line : HeaderText → List ℕ
header_line h = h.name ++ (codes ": " ++ h.value)

abbrev pub header_text : HeaderText → List ℕ
header_text h = ended (header_line h)

-- what a message is written as
abbrev pub spelling : MessageText → List ℕ
spelling m = ended (start_line m.start) ++ (flat_map header_text m.headers ++ (ended [] ++ m.body))
