-- A SIP URI as its parts, and its spelling (RFC 3261 section 19.1.1).
use Rattle.std.specs.Prelude.{ℕ, Bool, not, List, [], ◌∷◌, ◌++◌, filter, Option, Some, None, codes}
use Rattle.std.specs.List.{flat_map}
use Rattle.std.specs.Str.{bytes_eq, str_to_ascii_lowercase}
use Rattle.sip_lex.specs.Cut.{behind, cut, is}
pub use Rattle.sip_lex.specs.Params.{param_text}

-- the parts as they are written
pub record Uri : Type 0 where
  -- `sip:` in any case
  pub scheme : List ℕ
  -- what stands before the `@`
  pub user : Option (List ℕ)
  pub host : List ℕ
  -- the digits of the port
  pub port : Option (List ℕ)
  -- each a name, or a name, `=` and a value
  pub params : List (List ℕ)
  -- what stands behind the `?`
  pub headers : Option (List ℕ)

abbrev pub user_text : Option (List ℕ) → List ℕ
user_text None = []
user_text (Some user) = user ++ 64 ∷ []

abbrev pub params_text : List (List ℕ) → List ℕ
params_text params = flat_map param_text params

-- what stands behind the user
abbrev pub rest_text : Uri → List ℕ
rest_text u = u.host ++ (behind 58 u.port ++ (params_text u.params ++ behind 63 u.headers))

abbrev pub spelling : Uri → List ℕ
spelling u = u.scheme ++ (user_text u.user ++ rest_text u)

-- the parameter has this name, which is in lower case
abbrev pub is_named : List ℕ → List ℕ → Bool
is_named name param = bytes_eq (str_to_ascii_lowercase (cut (is 61) param).0) name

abbrev pub is_method : List ℕ → Bool
is_method param = is_named (codes "method") param

-- without the parameter `method` and the headers, as in a request (RFC 3261 section 19.1.1)
abbrev pub without_methods : List (List ℕ) → List (List ℕ)
without_methods params = filter (λ p. not (is_method p)) params

abbrev pub request_uri : Uri → List ℕ
request_uri u = u.scheme ++ (user_text u.user ++ (u.host ++ (behind 58 u.port ++ params_text (without_methods u.params))))

-- the URI as it stands in a request: without the parameter `method` and the headers (section 19.1.1)
abbrev pub requested : Uri → Uri
requested uri = record uri { params = without_methods uri.params; headers = None }
