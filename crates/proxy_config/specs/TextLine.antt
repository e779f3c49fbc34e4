-- The lines of a text: each is ended by LF, and what stands behind the last LF is none.
use Rattle.std.specs.Prelude.{ℕ, zero, suc, ◌-◌, ◌==◌, List, [], ◌∷◌, ◌++◌, Option, Some, None, option_and_then, if◌then◌else◌}
use Rattle.std.specs.List.{AllByRecursion}
use Rattle.sip_lex.specs.Cut.{Lacks, cut, is}

-- ---- the line with a number

abbrev pub ended_line : List ℕ × Option (List ℕ) → Option (List ℕ)
ended_line (line, None) = None
ended_line (line, Some rest) = Some line

abbrev pub first_line : List ℕ → Option (List ℕ)
first_line text = ended_line (cut (is 10) text)

-- what stands behind the first lines, so many of them
abbrev pub behind_lines : ℕ → List ℕ → Option (List ℕ)
behind_lines zero text = Some text
behind_lines (suc count) text = option_and_then (behind_lines count) (cut (is 10) text).1

-- the line with this number, counted from 1
abbrev pub line_at : List ℕ → ℕ → Option (List ℕ)
line_at text number = if number == 0 then None else option_and_then first_line (behind_lines (number - 1) text)

-- ---- lines as they are written

-- no LF stands in any of them
abbrev pub AreLines : List (List ℕ) → Type 0
AreLines lines = AllByRecursion (λ line. Lacks 10 line) lines

-- each with its LF, and what stands behind them
abbrev pub written : List (List ℕ) → List ℕ → List ℕ
written [] rest = rest
written (line ∷ lines) rest = line ++ 10 ∷ written lines rest
