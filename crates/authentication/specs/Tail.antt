-- The port of a URI and the names of its parameters (RFC 3261 sections 19.1.1 and 19.1.2).
use Rattle.std.specs.Prelude.{ℕ, Bool, List, Option, Some, None, unwrap_or}
use Rattle.std.specs.Str.{bytes_eq, str_to_ascii_lowercase}
use Rattle.sip_lex.specs.Cut.{cut, is}
use Rattle.sip_uri.specs.Host.{port_of}
use Rattle.sip_uri.specs.Reading.{uri_of}

abbrev pub port_or_default : Option (List ℕ) → ℕ
port_or_default None = 5060
port_or_default (Some digits) = unwrap_or (port_of digits) 5060

abbrev pub port_of_uri : List ℕ → ℕ
port_of_uri text = port_or_default (uri_of text).port

-- a parameter has this name, in any case
abbrev pub is_uri_param : List ℕ → List ℕ → Bool
is_uri_param name param = bytes_eq (str_to_ascii_lowercase (cut (is 61) param).0) (str_to_ascii_lowercase name)
