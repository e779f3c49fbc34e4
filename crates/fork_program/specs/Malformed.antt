-- Which line of a text that spells nothing of a grammar is the first that is malformed or missing.
use Rattle.std.specs.Prelude.{◌≡◌, ℕ, suc, List, [], ◌∷◌, ◌++◌, length}
use Rattle.fork_rank.specs.LineByLine.{lines_text}
use Rattle.fork_rank.specs.RuleLines.{ended}
use Rattle.fork_program.specs.Line.{Line, line_text}
use Rattle.fork_program.specs.Script.{Script}
use Rattle.fork_program.specs.Spelling.{Spelling, IsSpelling, lines_of, Spells}

-- something of the grammar is spelled by lines that begin with these
pub record BeginsSome (S L : Type 0) (IsSpelling : S → Type 0) (lines_of : S → List L) (lines : List L) : Type 0 where
  pub script : S
  pub is : IsSpelling script
  pub more : List L
  pub whole : lines_of script ≡ lines ++ more

-- line n, counted from 1: something begins with the lines before it, nothing begins with these and the line that stands there,
-- and the text is no whole one
pub record IsFirstMalformed (L V : Type 0) (line_text : L → List ℕ) (Begins : List L → Type 0) (Spells : List ℕ → V → Type 0) (text : List ℕ) (n : ℕ) : Type 0 where
  pub lines : List L
  pub rest : List ℕ
  pub number : n ≡ suc (length lines)
  pub text_is : text ≡ lines_text line_text lines ++ rest
  pub begins : Begins lines
  pub wrong : (line : L) (more : List ℕ) → rest ≡ ended (line_text line) ++ more → Begins (lines ++ line ∷ []) → ⊥
  pub partial : (value : V) → Spells text value → ⊥

-- some script begins with these lines
abbrev pub Begins : List Line → Type 0
Begins lines = BeginsSome Spelling Line IsSpelling lines_of lines

-- of scripts
abbrev pub IsMalformedAt : List ℕ → ℕ → Type 0
IsMalformedAt text n = IsFirstMalformed Line Script line_text Begins Spells text n
