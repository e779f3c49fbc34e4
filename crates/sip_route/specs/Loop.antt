-- What tells two passes of one request apart (RFC 3261 sections 16.3 step 4 and 16.6 step 8). Which
-- fields are taken is this proxy's choice.
use Rattle.std.specs.Prelude.{ℕ, List, [], ◌∷◌, ◌++◌, codes, Option, Some, None}
use Rattle.std.specs.Fmt.{decimal}
use Rattle.std.specs.List.{flat_map, join_with_byte}
use Rattle.md5.specs.Md5.{md5}
use Rattle.sip_text.specs.declared.needed.MandatoryHeader.TheVariants.{CallId, From, To}
use Rattle.sip_text.specs.Fields.{CSeqText, message_cseq, value_of}
use Rattle.sip_text.specs.Name.{values_of}
use Rattle.sip_lex.specs.Tag.{tag_in}
use Rattle.sip_text.specs.Text.{MessageText, StartText, Request, Response}
use Rattle.sip_via.specs.ViaParts.{or_empty}

abbrev pub request_uri : StartText → List ℕ
request_uri (Request method uri) = uri
request_uri (Response status reason) = []

abbrev pub number_text : Option CSeqText → List ℕ
number_text None = []
number_text (Some cseq) = decimal cseq.number

-- the number of the CSeq, without leading zeros
abbrev pub cseq_number : MessageText → List ℕ
cseq_number m = number_text (message_cseq m.headers)

abbrev pub from_tag : MessageText → List ℕ
from_tag m = or_empty (tag_in (value_of From m.headers))

abbrev pub to_tag : MessageText → List ℕ
to_tag m = or_empty (tag_in (value_of To m.headers))

abbrev pub call_id : MessageText → List ℕ
call_id m = or_empty (value_of CallId m.headers)

-- the values of that name, a comma between two
abbrev pub all_values : List ℕ → MessageText → List ℕ
all_values name m = join_with_byte 44 (values_of name m.headers)

abbrev pub field_line : List ℕ → List ℕ
field_line field = field ++ 10 ∷ []

-- fields, an LF behind each
abbrev pub field_lines : List (List ℕ) → List ℕ
field_lines fields = flat_map field_line fields

-- what names a request among those of its sender
abbrev pub dialog_fields : MessageText → List (List ℕ)
dialog_fields m = from_tag m ∷ to_tag m ∷ call_id m ∷ cseq_number m ∷ []

-- what says how it is routed
abbrev pub routing_fields : MessageText → List (List ℕ)
routing_fields m = all_values (codes "route") m ∷ all_values (codes "proxy-require") m ∷ all_values (codes "proxy-authorization") m ∷ []

abbrev pub loop_fields : MessageText → List (List ℕ)
loop_fields m = request_uri m.start ∷ (dialog_fields m ++ routing_fields m)

unfoldable pub loop_key : MessageText → List ℕ
loop_key m = md5 (field_lines (loop_fields m))
