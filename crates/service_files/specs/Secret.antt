-- The secret that several proxies share, as its file has it: 64 hexadecimal digits, with or without a line feed behind them.
use Rattle.std.specs.Prelude.{ℕ, List, [], ◌∷◌, Option, Some, None}
use Rattle.sip_lex.specs.Cut.{cut, is}

abbrev pub line_alone : List ℕ × Option (List ℕ) → List ℕ
line_alone (line, None) = line
line_alone (line, Some []) = line
line_alone (line, Some (b ∷ bs)) = []

-- the one line of a text; nothing where there are more
abbrev pub only_line : List ℕ → List ℕ
only_line text = line_alone (cut (is 10) text)
