-- What decides whether two URIs are the same target.
use Rattle.std.specs.Prelude.{ℕ, List, [], ◌∷◌, ◌++◌, map, drop, fold, Option, Some, None}
use Rattle.std.specs.Str.{str_to_ascii_lowercase}
use Rattle.std.specs.List.{prefix_len}
use Rattle.std.specs.Ordering.{nat_cmp}
use Rattle.std.specs.Cmp.Lexicographic.{slice_cmp}
use Rattle.std.specs.BTreeSet.{insert_key}
use Rattle.sip_lex.specs.Cut.{is}
use Rattle.sip_uri.specs.Uri.{Uri, params_text, user_text, without_methods}

-- the parameters that count, in lower case
abbrev pub counted : List (List ℕ) → List (List ℕ)
counted params = map str_to_ascii_lowercase (without_methods params)

-- one more text in a sorted list, unless it is there
abbrev pub add_distinct : List (List ℕ) → List ℕ → List (List ℕ)
add_distinct keys key = insert_key (slice_cmp nat_cmp) keys key

-- each of them once, in order of bytes
abbrev pub key_params : List (List ℕ) → List (List ℕ)
key_params params = fold add_distinct [] (counted params)

-- the port's number in decimal: its digits without the leading zeros
abbrev pub port_key : Option (List ℕ) → List ℕ
port_key None = []
port_key (Some digits) = 58 ∷ drop (prefix_len (is 48) digits) digits

abbrev pub key_of : Uri → List ℕ
key_of u = user_text u.user ++ (str_to_ascii_lowercase u.host ++ (port_key u.port ++ params_text (key_params u.params)))
