-- Why a text is no message: each fault, said of its bytes (RFC 3261 sections 7, 8.1.1 and 18.3).
use Rattle.std.specs.Prelude.{◌≡◌, ◌≢◌, ◌<◌, ℕ, true, false, List, [], ◌++◌, None, Some, length}
use Rattle.std.specs.List.{flat_map, AllByRecursion}
use Rattle.sip_lex.specs.Line.{IsLine, ended}
use Rattle.sip_text.specs.declared.fields.BodyLength.TheVariants.{Bytes, Wrong}
use Rattle.sip_text.specs.Fields.{cseq_fits, missing, said_length}
use Rattle.sip_text.specs.Grammar.{AreHeaders, IsFull, IsStartLine, blank_lines}
use Rattle.sip_text.specs.Message.{head_of}
use Rattle.sip_text.specs.Reading.{Fault, BadStart, BadHeader, Lacks, BadVersion, BadStatus, Short, BadCSeq, BadLength}
use Rattle.sip_text.specs.StartFaults.{HasStartFault}
use Rattle.sip_text.specs.Text.{HeaderText, MessageText, StartText}

-- empty lines, a line that isn't, and the rest
pub record FirstLine (text line rest : List ℕ) : Type 0 where
  pub blank : ℕ
  pub whole : text ≡ blank_lines blank ++ (ended line ++ rest)
  pub is_line : IsLine line
  pub full : line ≢ []

-- the first line is a start line
pub record Begins (text : List ℕ) (start : StartText) (rest : List ℕ) : Type 0 where
  pub line : List ℕ
  pub first : FirstLine text line rest
  pub start_is : IsStartLine line start

-- header lines, an empty line, and the rest
pub record HasHeaders (text : List ℕ) (hs : List HeaderText) (rest : List ℕ) : Type 0 where
  pub lines : List (List ℕ)
  pub whole : text ≡ flat_map ended lines ++ (ended [] ++ rest)
  pub are_full : AllByRecursion IsFull lines
  pub headers : AreHeaders lines hs

-- a start line, header lines, an empty line, and the rest
pub record HasHead (text : List ℕ) (start : StartText) (hs : List HeaderText) (rest : List ℕ) : Type 0 where
  pub behind : List ℕ
  pub begins : Begins text start behind
  pub headers : HasHeaders behind hs rest

-- the first line that isn't empty has that fault
abbrev pub FirstLineIs : List ℕ → Fault → Type 0
FirstLineIs text f = (line rest : List ℕ) × FirstLine text line rest × HasStartFault line f

-- all that each message has is there, and its CSeq fits
pub record HasFields (start : StartText) (hs : List HeaderText) : Type 0 where
  pub needed : missing hs ≡ None
  pub cseq : cseq_fits start hs ≡ true

-- fewer bytes are there than Content-Length says
pub record IsShort (m : MessageText) (start : StartText) (hs : List HeaderText) (rest : List ℕ) : Type 0 where
  pub said : ℕ
  pub said_is : said_length hs ≡ Bytes said
  pub fewer : length rest < said
  pub head : m ≡ head_of start hs

-- why a text is no message; where no line stands at its front, there is no start line
abbrev pub IsRefused : List ℕ → Fault → Type 0
IsRefused text BadStart = (line rest : List ℕ) → FirstLine text line rest → HasStartFault line BadStart
IsRefused text BadVersion = FirstLineIs text BadVersion
IsRefused text BadStatus = FirstLineIs text BadStatus
IsRefused text BadHeader = (start : StartText) × (rest : List ℕ) × Begins text start rest × ((hs : List HeaderText) (body : List ℕ) → HasHeaders rest hs body → ⊥)
IsRefused text (Lacks name) = (start : StartText) × (hs : List HeaderText) × (rest : List ℕ) × HasHead text start hs rest × (missing hs ≡ Some name)
IsRefused text BadCSeq = (start : StartText) × (hs : List HeaderText) × (rest : List ℕ) × HasHead text start hs rest × (missing hs ≡ None) × (cseq_fits start hs ≡ false)
IsRefused text BadLength = (start : StartText) × (hs : List HeaderText) × (rest : List ℕ) × HasHead text start hs rest × HasFields start hs × (said_length hs ≡ Wrong)
IsRefused text (Short m) = (start : StartText) × (hs : List HeaderText) × (rest : List ℕ) × HasHead text start hs rest × HasFields start hs × IsShort m start hs rest
