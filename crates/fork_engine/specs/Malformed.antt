-- Which line of a text that spells no script with workers is the first that is malformed or missing.
use Rattle.std.specs.Prelude.{ℕ, List}
use Rattle.fork_program.specs.Malformed.{BeginsSome, IsFirstMalformed}
use Rattle.fork_engine.specs.Workers.{Workers}
use Rattle.fork_engine.specs.Spelling.{Line, Spelling, IsSpelling, line_text, lines_of, Spells}

-- some script with workers begins with these lines
abbrev pub Begins : List Line → Type 0
Begins lines = BeginsSome Spelling Line IsSpelling lines_of lines

-- line n, counted from 1
abbrev pub IsMalformedAt : List ℕ → ℕ → Type 0
IsMalformedAt text n = IsFirstMalformed Line Workers line_text Begins Spells text n
