-- A text in a place of a fixed length.
use Rattle.std.specs.Prelude.{ℕ, List, take}
use Rattle.sip_lex.specs.declared.growing.Short.{Short}

abbrev pub short_text : Short → List ℕ
short_text s = take s.len s.bytes
