-- Which texts are listings: what may stand in each line, and how many lines there are of each kind.
-- Here: what no public contract reaches.
use Rattle.std.specs.Prelude.{◌≡◌, ℕ, List}
use Rattle.fork_listing.specs.Line.{Line, line_text}
use Rattle.fork_listing.specs.Spelled.{IsLine}

abbrev pub IsSpelledBy : List ℕ → Line → Type 0
IsSpelledBy text line = (text ≡ line_text line) × IsLine line
