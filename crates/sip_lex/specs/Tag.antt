-- The tag of a From or To value (RFC 3261 sections 19.3 and 20.20).
use Rattle.std.specs.Prelude.{ℕ, Bool, List, [], ◌∷◌, Option, Some, None, if◌then◌else◌, codes}
use Rattle.std.specs.Str.{bytes_eq, str_to_ascii_lowercase}
use Rattle.sip_lex.specs.declared.sheltered.Shelter.TheVariants.{Quotes, QuotesAndAngles}
use Rattle.sip_lex.specs.declared.sheltered.ShelterState.TheVariants.{Plain}
use Rattle.sip_lex.specs.Bytes.{trim}
use Rattle.sip_lex.specs.Cut.{cut, is}
use Rattle.sip_lex.specs.Outside.{pieces_outside_behind}
use Rattle.sip_lex.specs.Sheltered.{cut_outside}

abbrev pub is_tag_name : List ℕ → Bool
is_tag_name name = bytes_eq (str_to_ascii_lowercase (trim name)) (codes "tag")

abbrev pub unless_empty : List ℕ → Option (List ℕ)
unless_empty [] = None
unless_empty (b ∷ bs) = Some (b ∷ bs)

-- an empty or missing value is no tag
abbrev pub value_of_cut : Option (List ℕ) → Option (List ℕ)
value_of_cut None = None
value_of_cut (Some value) = unless_empty (trim value)

-- the first parameter of that name decides
abbrev pub tag_of_params : List (List ℕ) → Option (List ℕ)
tag_of_params [] = None
tag_of_params (param ∷ params) = if is_tag_name (cut (is 61) param).0 then value_of_cut (cut (is 61) param).1 else tag_of_params params

-- where a `<` stands outside quotes the address is what it opens, up to the first `>`; else it begins the value
abbrev pub behind_angles : List ℕ → Option (List ℕ) → Option (List ℕ)
behind_angles value None = Some value
behind_angles value (Some inside) = (cut (is 62) inside).1

-- the parameters stand behind the first `;`, and quotes and angle brackets hide no end of one
abbrev pub tag_behind : Option (List ℕ) → Option (List ℕ)
tag_behind None = None
tag_behind (Some text) = tag_of_params (pieces_outside_behind QuotesAndAngles 59 (cut_outside QuotesAndAngles 59 Plain text).1)

abbrev pub tag_of : List ℕ → Option (List ℕ)
tag_of value = tag_behind (behind_angles value (cut_outside Quotes 60 Plain value).1)

-- the tag of a value, if it is there
abbrev pub tag_in : Option (List ℕ) → Option (List ℕ)
tag_in None = None
tag_in (Some value) = tag_of value
