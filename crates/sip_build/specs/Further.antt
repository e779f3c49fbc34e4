-- Header lines that a message gets beside those that are always in it (RFC 3261 section 7.3).
use Rattle.std.specs.Prelude.{List, [], ◌∷◌, Option, Some, None}
use Rattle.sip_text.specs.declared.parts.HeaderLine.{HeaderLine}
use Rattle.sip_text.specs.Seen.{view_line}
use Rattle.sip_text.specs.Text.{HeaderText}

abbrev pub view_if_any : Option HeaderLine → List HeaderText
view_if_any None = []
view_if_any (Some line) = view_line line ∷ []
