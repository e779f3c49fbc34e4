-- The lines of a script: what is forked, by which rules and to which targets, then what happens to the fork
-- (RFC 3261 sections 16.5 to 16.10). Words are separated by one space, numbers are decimal without leading zeros.
-- Here: what no public contract reaches.
use Rattle.std.specs.Prelude.{◌≡◌, ℕ, List}
use Rattle.fork_program.specs.Line.{Line, line_text, IsLine}

-- the text spells the line
abbrev pub IsSpelledBy : List ℕ → Line → Type 0
IsSpelledBy text line = (text ≡ line_text line) × IsLine line
