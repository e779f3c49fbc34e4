-- The headers that each message has, its CSeq and its Content-Length (RFC 3261 sections 8.1.1, 20.14
-- and 20.16).
use Rattle.std.specs.Prelude.{ℕ, ◌-◌, ◌^◌, Bool, true, false, List, [], ◌∷◌, Option, Some, None, is_none, ◌==◌, if◌then◌else◌, codes}
use Rattle.std.specs.List.{list_all}
use Rattle.std.specs.Str.{bytes_eq}
use Rattle.sip_lex.specs.Bytes.{is_space, is_token, trim_start}
use Rattle.sip_lex.specs.Cut.{cut}
use Rattle.sip_lex.specs.Number.{length_number, number_within}
use Rattle.sip_text.specs.declared.fields.BodyLength.{BodyLength}
use Rattle.sip_text.specs.declared.fields.BodyLength.TheVariants.{Unsaid, Bytes, Wrong}
use Rattle.sip_text.specs.declared.needed.MandatoryHeader.{MandatoryHeader}
use Rattle.sip_text.specs.declared.needed.MandatoryHeader.TheVariants.{Via, From, To, CallId, CSeq}
use Rattle.sip_text.specs.Name.{first_value, values_of}
use Rattle.sip_text.specs.Text.{HeaderText, StartText, Request, Response}

-- ---- the five that a message needs

abbrev pub needed_name : MandatoryHeader → List ℕ
needed_name Via = codes "via"
needed_name From = codes "from"
needed_name To = codes "to"
needed_name CallId = codes "call-id"
needed_name CSeq = codes "cseq"

abbrev pub value_of : MandatoryHeader → List HeaderText → Option (List ℕ)
value_of which hs = first_value (needed_name which) hs

abbrev pub is_missing : MandatoryHeader → List HeaderText → Bool
is_missing which hs = is_none (value_of which hs)

-- the first of them that is missing
abbrev pub missing : List HeaderText → Option MandatoryHeader
missing hs =
    if is_missing Via hs then Some Via
    else (if is_missing From hs then Some From
    else (if is_missing To hs then Some To
    else (if is_missing CallId hs then Some CallId
    else (if is_missing CSeq hs then Some CSeq
    else None))))

-- ---- CSeq

pub record CSeqText : Type 0 where
  pub number : ℕ
  pub method : List ℕ

abbrev pub cseq_with : Option ℕ → List ℕ → Option CSeqText
cseq_with None method = None
cseq_with (Some n) method = if is_token method then Some (record { number = n; method = method }) else None

abbrev pub cseq_of_cut : List ℕ × Option (List ℕ) → Option CSeqText
cseq_of_cut (digits, None) = None
cseq_of_cut (digits, Some rest) = cseq_with (number_within (2 ^ 31 - 1) digits) (trim_start rest)

-- digits of a number below 2^31, space, and a token
abbrev pub cseq_of : List ℕ → Option CSeqText
cseq_of value = cseq_of_cut (cut is_space value)

-- a request's CSeq has its method
abbrev pub has_method : StartText → CSeqText → Bool
has_method (Request method uri) c = bytes_eq c.method method
has_method (Response status reason) c = true

abbrev pub fits_start : StartText → Option CSeqText → Bool
fits_start start None = false
fits_start start (Some c) = has_method start c

abbrev pub cseq_in : Option (List ℕ) → Option CSeqText
cseq_in None = None
cseq_in (Some value) = cseq_of value

-- the CSeq of a message
abbrev pub message_cseq : List HeaderText → Option CSeqText
message_cseq hs = cseq_in (value_of CSeq hs)

abbrev pub cseq_fits : StartText → List HeaderText → Bool
cseq_fits start hs = fits_start start (message_cseq hs)

-- ---- Content-Length

abbrev pub length_name : List ℕ
length_name = codes "content-length"

abbrev pub is_number : ℕ → Option ℕ → Bool
is_number n None = false
is_number n (Some m) = n == m

-- a value that says this length
abbrev pub says : ℕ → List ℕ → Bool
says n value = is_number n (length_number value)

abbrev pub agreed : Option ℕ → List (List ℕ) → BodyLength
agreed None values = Wrong
agreed (Some n) values = if list_all (says n) values then Bytes n else Wrong

abbrev pub said_by : List (List ℕ) → BodyLength
said_by [] = Unsaid
said_by (v ∷ vs) = agreed (length_number v) vs

abbrev pub said_length : List HeaderText → BodyLength
said_length hs = said_by (values_of length_name hs)
