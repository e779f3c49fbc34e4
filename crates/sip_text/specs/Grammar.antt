-- Which texts are messages, and which message each is (RFC 3261 sections 7 and 25.1).
use Rattle.std.specs.Prelude.{◌≡◌, ◌≢◌, ℕ, true, List, [], ◌∷◌, ◌++◌, None, length, zero, suc}
use Rattle.std.specs.List.{flat_map, AllByRecursion}
use Rattle.sip_lex.specs.Bytes.{is_space, is_token, trim, trim_end}
use Rattle.sip_lex.specs.Cut.{Lacks}
use Rattle.sip_lex.specs.Line.{IsLine, ended}
use Rattle.sip_text.specs.declared.fields.BodyLength.{BodyLength}
use Rattle.sip_text.specs.declared.fields.BodyLength.TheVariants.{Unsaid, Bytes, Wrong}
use Rattle.sip_text.specs.Fields.{cseq_fits, missing, said_length}
use Rattle.sip_text.specs.Reading.{is_status, is_uri, is_version}
use Rattle.sip_lex.specs.Values.{begins_with_space}
use Rattle.sip_text.specs.Text.{HeaderText, MessageText, StartText, Request, Response, status_text}

-- method, space, URI, space, version
pub record IsRequestLine (line method uri : List ℕ) : Type 0 where
  pub gap : ℕ
  pub second_gap : ℕ
  pub version : List ℕ
  pub parts : line ≡ method ++ (gap ∷ (uri ++ (second_gap ∷ version)))
  pub gap_is : is_space gap ≡ true
  pub second_gap_is : is_space second_gap ≡ true
  pub method_is : is_token method ≡ true
  pub uri_is : is_uri uri ≡ true
  pub version_is : is_version version ≡ true

-- version, space, three digits, space, reason
pub record IsStatusLine (line : List ℕ) (status : ℕ) (reason : List ℕ) : Type 0 where
  pub gap : ℕ
  pub second_gap : ℕ
  pub version : List ℕ
  pub parts : line ≡ version ++ (gap ∷ (status_text status ++ (second_gap ∷ reason)))
  pub gap_is : is_space gap ≡ true
  pub second_gap_is : is_space second_gap ≡ true
  pub version_is : is_version version ≡ true
  pub status_is : is_status status ≡ true

abbrev pub IsStartLine : List ℕ → StartText → Type 0
IsStartLine line (Request method uri) = IsRequestLine line method uri
IsStartLine line (Response status reason) = IsStatusLine line status reason

-- what stands before the first colon is the name, without the space at its end; behind it stands the
-- value, and it is trimmed once more after the lines that continue it were joined
pub record IsHeader (line : List ℕ) (more : List (List ℕ)) (h : HeaderText) : Type 0 where
  pub front : List ℕ
  pub raw : List ℕ
  pub parts : line ≡ front ++ 58 ∷ raw
  pub no_colon : Lacks 58 front
  pub name : h.name ≡ trim_end front
  pub is_name : is_token h.name ≡ true
  pub value : h.value ≡ trim (trim raw ++ flat_map (λ l. 32 ∷ trim l) more)
  pub continues : AllByRecursion (λ l. begins_with_space l ≡ true) more

-- the lines are these headers, in order
abbrev pub AreHeaders : List (List ℕ) → List HeaderText → Type 0
AreHeaders lines [] = lines ≡ []
AreHeaders lines (h ∷ hs) =
    (line : List ℕ) × (more others : List (List ℕ)) × (lines ≡ line ∷ (more ++ others)) × IsHeader line more h × AreHeaders others hs

abbrev pub IsFull : List ℕ → Type 0
IsFull line = IsLine line × (line ≢ [])

-- what stands behind the empty line is the body, or begins with as many bytes as were said
abbrev pub IsBody : BodyLength → List ℕ → List ℕ → Type 0
IsBody Unsaid rest body = rest ≡ body
IsBody (Bytes n) rest body = (dropped : List ℕ) × (rest ≡ body ++ dropped) × (length body ≡ n)
IsBody Wrong rest body = ⊥

-- so many empty lines
abbrev pub blank_lines : ℕ → List ℕ
blank_lines zero = []
blank_lines (suc n) = 13 ∷ (10 ∷ blank_lines n)

-- empty lines, a start line, header lines, an empty line, and the rest
pub record IsText (text : List ℕ) (m : MessageText) : Type 0 where
  pub blank : ℕ
  pub line : List ℕ
  pub lines : List (List ℕ)
  pub rest : List ℕ
  pub whole : text ≡ blank_lines blank ++ (ended line ++ (flat_map ended lines ++ (ended [] ++ rest)))
  pub is_line : IsLine line
  pub are_full : AllByRecursion IsFull lines
  pub start : IsStartLine line m.start
  pub headers : AreHeaders lines m.headers
  pub needed : missing m.headers ≡ None
  pub cseq : cseq_fits m.start m.headers ≡ true
  pub body : IsBody (said_length m.headers) rest m.body
