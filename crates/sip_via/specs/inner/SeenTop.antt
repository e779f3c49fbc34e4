-- What was read of a top Via value, in memory.
use Rattle.std.specs.Prelude.{ℕ, List}
use Rattle.sip_lex.specs.Short.{short_text}
use Rattle.sip_via.specs.declared.top.MarkedLine.{MarkedLine}
use Rattle.sip_via.specs.declared.top.MarkedLine.TheVariants as line
use Rattle.sip_via.specs.declared.top.MarkedTop.{MarkedTop}
use Rattle.sip_via.specs.ReadTop.{ReadTop}

abbrev pub line_text : {A : Type 0} → MarkedLine A → List ℕ
line_text (line.Placed text) = short_text text
line_text (line.Grown text) = text.items

abbrev pub seen_top : {A : Type 0} → MarkedTop A → ReadTop
seen_top top = record { line = line_text top.line; reply = top.reply; cookie = top.cookie }
