-- Reading credentials, an element after the other.
use Rattle.std.specs.Prelude.{ℕ, Bool, true, false, List, [], ◌∷◌, Option, Some, None, option_and_then, codes, if◌then◌else◌}
use Rattle.std.specs.Option.{option_map}
use Rattle.std.specs.Str.{bytes_eq, str_to_ascii_lowercase}
use Rattle.sip_lex.specs.declared.sheltered.Shelter.TheVariants.{Quotes}
use Rattle.sip_lex.specs.Bytes.{is_space, is_token, trim}
use Rattle.sip_lex.specs.Cut.{cut, is}
use Rattle.sip_lex.specs.Outside.{pieces_outside_behind}
use Rattle.sip_lex.specs.Quoted.{quoted_at}
use Rattle.sip_digest.specs.AuthParam.{AuthParam, unescaped}
use Rattle.sip_digest.specs.Credentials.{Credentials, Named, credentials_in, first_named}

-- ---- an element

-- quoted text with nothing behind it
abbrev pub whole_quoted : Option (List ℕ × List ℕ) → Option (List ℕ)
whole_quoted None = None
whole_quoted (Some (inside, [])) = Some (unescaped false inside)
whole_quoted (Some (inside, b ∷ rest)) = None

abbrev pub read_value : List ℕ → Option (List ℕ)
read_value text = if is_token text then Some text else whole_quoted (quoted_at text)

abbrev pub param_of : (name value : List ℕ) → AuthParam
param_of name value = record { name = name; value = value }

abbrev pub element_cut : List ℕ × Option (List ℕ) → Option AuthParam
element_cut (left, None) = None
element_cut (left, Some right) = if is_token (trim left) then option_map (param_of (trim left)) (read_value (trim right)) else None

abbrev pub read_element : List ℕ → Option AuthParam
read_element element = element_cut (cut (is 61) element)

-- ---- a list

-- the parameters before the first fault, and whether there is none
abbrev pub with_param : Option AuthParam → List AuthParam × Bool → List AuthParam × Bool
with_param None rest = ([], false)
with_param (Some param) rest = (param ∷ rest.0, rest.1)

abbrev pub read_elements : List (List ℕ) → List AuthParam × Bool
read_elements [] = ([], true)
read_elements (element ∷ elements) = with_param (read_element element) (read_elements elements)

abbrev pub read_list : Option (List ℕ) → List AuthParam × Bool
read_list text = read_elements (pieces_outside_behind Quotes 44 text)

-- ---- by name

abbrev pub first_or : Option (List ℕ) → Option (List ℕ) → Option (List ℕ)
first_or None later = later
first_or (Some value) later = Some value

-- those of the first, and where it has none those of the second
abbrev pub followed : Named → Named → Named
followed a b = record {
  username = first_or a.username b.username;
  realm = first_or a.realm b.realm;
  nonce = first_or a.nonce b.nonce;
  uri = first_or a.uri b.uri;
  response = first_or a.response b.response;
  algorithm = first_or a.algorithm b.algorithm;
  qop = first_or a.qop b.qop;
  nc = first_or a.nc b.nc;
  cnonce = first_or a.cnonce b.cnonce;
}

-- ---- the whole

abbrev pub scheme_cut : List ℕ × Option (List ℕ) → Option (List ℕ)
scheme_cut (scheme, None) = None
scheme_cut (scheme, Some text) = if bytes_eq (str_to_ascii_lowercase scheme) (codes "digest") then Some text else None

-- what stands behind the scheme Digest
abbrev pub behind_scheme : List ℕ → Option (List ℕ)
behind_scheme value = scheme_cut (cut is_space value)

abbrev pub is_text : List ℕ → Option (List ℕ) → Bool
is_text text None = false
is_text text (Some other) = bytes_eq other text

abbrev pub list_of_realm : List ℕ → List AuthParam × Bool → Option (Option Credentials)
list_of_realm realm list = if is_text realm (first_named (codes "realm") list.0) then Some (credentials_in list.0 list.1) else None

unfoldable pub read_credentials : (value realm : List ℕ) → Option (Option Credentials)
read_credentials value realm = option_and_then (λ text. list_of_realm realm (read_list (Some text))) (behind_scheme value)
