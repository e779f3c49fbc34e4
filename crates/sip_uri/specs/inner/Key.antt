-- What decides whether two URIs are the same target.
-- Here: what no public contract reaches.
use Rattle.std.specs.Prelude.{ℕ, List, ◌++◌}
use Rattle.std.specs.Str.{str_to_ascii_lowercase}
use Rattle.sip_lex.specs.Pieces.{pieces_behind}
use Rattle.sip_uri.specs.Reading.{Parts}
use Rattle.sip_uri.specs.Uri.{params_text, user_text}
use Rattle.sip_uri.specs.Key.{key_params, port_key}

-- the same of the parts of a text
abbrev pub parts_key : Parts → List ℕ
parts_key p = user_text p.user ++ (str_to_ascii_lowercase p.host ++ (port_key p.port ++ params_text (key_params (pieces_behind 59 p.params))))
