-- What one walk over header lines has found of the fields that reading looks at.
use Rattle.std.specs.Prelude.{◌≡◌, Bool, true, false, List, [], ℕ, Option, Some, None, is_none, option_map, if◌then◌else◌}
use Rattle.sip_text.specs.declared.fields.BodyLength.{BodyLength}
use Rattle.sip_text.specs.declared.fields.BodyLength.TheVariants.{Unsaid, Bytes, Wrong}
use Rattle.sip_text.specs.declared.found.Field.{Field}
use Rattle.sip_text.specs.declared.found.Field.TheVariants as fields
use Rattle.sip_text.specs.declared.found.Found.{Found}
use Rattle.sip_text.specs.declared.needed.MandatoryHeader.{MandatoryHeader}
use Rattle.sip_text.specs.declared.needed.MandatoryHeader.TheVariants.{Via, From, To, CallId, CSeq}
use Rattle.sip_text.specs.Fields.{agreed, said_length, says, value_of}
use Rattle.sip_lex.specs.Number.{length_number}
use Rattle.sip_lex.specs.Places.{part_at}
use Rattle.sip_text.specs.Text.{HeaderText}

abbrev pub is_same : MandatoryHeader → MandatoryHeader → Bool
is_same Via Via = true
is_same From From = true
is_same To To = true
is_same CallId CallId = true
is_same CSeq CSeq = true
is_same _ _ = false

abbrev pub is_needed : MandatoryHeader → Field → Bool
is_needed which (fields.Needed other) = is_same which other
is_needed which _ = false

abbrev pub is_length : Field → Bool
is_length fields.Length = true
is_length _ = false

-- the value that was found first
abbrev pub put_first : Option (List ℕ) → List ℕ → Option (List ℕ)
put_first None value = Some value
put_first (Some found) value = Some found

-- what the Content-Length lines say with one more
abbrev pub said_then : BodyLength → List ℕ → BodyLength
said_then Wrong value = Wrong
said_then Unsaid value = agreed (length_number value) []
said_then (Bytes n) value = if says n value then Bytes n else Wrong

abbrev pub got : List ℕ → MandatoryHeader → Found → Option (List ℕ)
got text Via found = option_map (part_at text) found.via
got text From found = option_map (part_at text) found.from
got text To found = option_map (part_at text) found.to
got text CallId found = option_map (part_at text) found.call_id
got text CSeq found = option_map (part_at text) found.cseq

-- the first of the needed fields that was not found
abbrev pub missing_of : List ℕ → Found → Option MandatoryHeader
missing_of text found =
    if is_none (got text Via found) then Some Via
    else (if is_none (got text From found) then Some From
    else (if is_none (got text To found) then Some To
    else (if is_none (got text CallId found) then Some CallId
    else (if is_none (got text CSeq found) then Some CSeq
    else None))))

-- of each needed field the first value, and what the Content-Length lines say
pub record Finds (text : List ℕ) (hs : List HeaderText) (found : Found) : Type 0 where
  pub needed : (which : MandatoryHeader) → got text which found ≡ value_of which hs
  pub length : found.length ≡ said_length hs
