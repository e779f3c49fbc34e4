-- Lines that end in CRLF (RFC 3261 section 7).
use Rattle.std.specs.Prelude.{ℕ, ◌&&◌, ◌==◌, List, [], ◌∷◌, ◌++◌, Option, Some, None, if◌then◌else◌}
use Rattle.std.specs.Borrow.{Bor}
use Rattle.sip_lex.specs.Cut.{cut, is, Lacks}

-- no CR and no LF stands in a line
pub record IsLine (line : List ℕ) : Type 0 where
  pub no_cr : Lacks 13 line
  pub no_lf : Lacks 10 line

-- a line with its end
abbrev pub ended : List ℕ → List ℕ
ended line = line ++ 13 ∷ 10 ∷ []

abbrev pub line_of_cut : List ℕ × Option (List ℕ) → Option (List ℕ)
line_of_cut (line, Some []) = Some line
line_of_cut _ = None

-- the line in what stands before an LF: its one CR stands at the end
abbrev pub line_in : List ℕ → Option (List ℕ)
line_in piece = line_of_cut (cut (is 13) piece)

abbrev pub with_rest : Option (List ℕ) → List ℕ → Option (List ℕ × List ℕ)
with_rest None rest = None
with_rest (Some line) rest = Some (line, rest)

abbrev pub line_at_cut : List ℕ × Option (List ℕ) → Option (List ℕ × List ℕ)
line_at_cut (piece, None) = None
line_at_cut (piece, Some after) = with_rest (line_in piece) after

-- the line at the front, and what stands behind its end
abbrev pub line_at : List ℕ → Option (List ℕ × List ℕ)
line_at text = line_at_cut (cut (is 10) text)

-- two parts in memory, as lists
abbrev pub seen_line : Option (Bor (List ℕ) × Bor (List ℕ)) → Option (List ℕ × List ℕ)
seen_line None = None
seen_line (Some p) = Some (p.0.now, p.1.now)

-- without the pairs of CR and LF at the front
abbrev pub skip_line_ends : List ℕ → List ℕ
skip_line_ends [] = []
skip_line_ends (b ∷ []) = b ∷ []
skip_line_ends (b ∷ c ∷ bs) = if b == 13 && c == 10 then skip_line_ends bs else b ∷ c ∷ bs
