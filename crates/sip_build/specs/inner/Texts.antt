-- Header lines as text (RFC 3261 section 7.3).
use Rattle.std.specs.Prelude.{ℕ, List}
use Rattle.std.specs.List.{flat_map}
use Rattle.sip_text.specs.Text.{HeaderText, header_text}

abbrev pub lines_text : List HeaderText → List ℕ
lines_text hs = flat_map header_text hs
