-- The Via values of a message (RFC 3261 sections 7.3.1 and 20.42).
use Rattle.std.specs.Prelude.{ℕ, Bool, true, false, List, [], ◌∷◌, map, codes}
use Rattle.std.specs.List.{flat_map}
use Rattle.sip_lex.specs.declared.sheltered.Shelter.TheVariants.{Quotes}
use Rattle.sip_lex.specs.Bytes.{trim}
use Rattle.sip_lex.specs.Outside.{pieces_outside}
use Rattle.sip_text.specs.Name.{values_of}
use Rattle.sip_text.specs.Text.{MessageText}

-- the values of one line: what stands between its commas outside quotes, trimmed
abbrev pub values_in : List ℕ → List (List ℕ)
values_in line = map trim (pieces_outside Quotes 44 line)

-- the header lines named Via, in order
abbrev pub via_lines : MessageText → List (List ℕ)
via_lines m = values_of (codes "via") m.headers

-- the Via values of a message, the nearest sender's first
abbrev pub via_values : MessageText → List (List ℕ)
via_values m = flat_map values_in (via_lines m)

abbrev pub first_or_empty : List (List ℕ) → List ℕ
first_or_empty [] = []
first_or_empty (v ∷ vs) = v

-- the first of them, which each message has
abbrev pub top_value : MessageText → List ℕ
top_value m = first_or_empty (via_values m)

-- a value stands behind the first
abbrev pub has_second : List (List ℕ) → Bool
has_second [] = false
has_second (v ∷ []) = false
has_second (v ∷ w ∷ vs) = true
