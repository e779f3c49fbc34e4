-- A parameter: a name, or a name, `=` and a value, with space round them (generic-param of RFC 3261 section 25.1).
use Rattle.std.specs.Prelude.{ℕ, Bool, List, ◌∷◌, Option, option_map}
use Rattle.std.specs.Str.{bytes_eq, str_to_ascii_lowercase}
use Rattle.sip_lex.specs.Bytes.{trim}
use Rattle.sip_lex.specs.Cut.{cut, is}

abbrev pub name_of : List ℕ → List ℕ
name_of param = trim (cut (is 61) param).0

abbrev pub value_of : List ℕ → Option (List ℕ)
value_of param = option_map trim (cut (is 61) param).1

-- the parameter has this name, in any case
abbrev pub is_named : List ℕ → List ℕ → Bool
is_named name param = bytes_eq (str_to_ascii_lowercase (name_of param)) (str_to_ascii_lowercase name)

-- behind its `;`
abbrev pub param_text : List ℕ → List ℕ
param_text param = 59 ∷ param
