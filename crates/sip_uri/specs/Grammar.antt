-- Which texts are SIP URIs (RFC 3261 sections 19.1.1 and 25.1, in the profile of this proxy).
use Rattle.std.specs.Prelude.{◌≡◌, ◌≢◌, ℕ, Bool, ◌&&◌, not, List, [], ◌++◌, map, Option, IfSome, IfNone, IsTrue, nat_le, ◌==◌, codes}
use Rattle.std.specs.Char.{to_ascii_lowercase}
use Rattle.std.specs.List.{list_all, AllByRecursion}
use Rattle.sip_lex.specs.Cut.{behind, Lacks}
use Rattle.sip_uri.specs.Host.{IsHost, IsPort}
use Rattle.sip_uri.specs.Uri.{Uri, rest_text, spelling}

-- printed ASCII but `<`, `>` and `"`
abbrev pub is_uri_byte : ℕ → Bool
is_uri_byte b = nat_le 33 b && nat_le b 126 && not (b == 60) && not (b == 62) && not (b == 34)

-- a name, or a name, `=` and a value, neither of them empty
pub record IsParam (param : List ℕ) : Type 0 where
  pub name : List ℕ
  pub value : Option (List ℕ)
  pub spelled : param ≡ name ++ behind 61 value
  pub full : name ≢ []
  pub no_equals : Lacks 61 name
  pub valued : IfSome value (λ v. v ≢ [])
  pub no_semicolon : Lacks 59 param
  pub no_question : Lacks 63 param

-- the parts of a URI
pub record IsUri (u : Uri) : Type 0 where
  pub scheme : map to_ascii_lowercase u.scheme ≡ codes "sip:"
  pub bytes : IsTrue (list_all is_uri_byte (spelling u))
  pub user : IfSome u.user (λ user. (user ≢ []) × Lacks 64 user)
  -- the first `@` ends the user
  pub no_user : IfNone u.user (Lacks 64 (rest_text u))
  pub host : IsHost u.host
  pub port : IfSome u.port IsPort
  pub params : AllByRecursion IsParam u.params

-- the text spells a URI
abbrev pub IsUriText : List ℕ → Type 0
IsUriText text = (u : Uri) × IsUri u × (text ≡ spelling u)
