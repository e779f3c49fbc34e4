-- A text that is read one line at a time, each line ended by LF.
use Rattle.std.specs.Prelude.{ℕ, suc, List, [], ◌∷◌, Option, Some, None, Result, Err, option_and_then, if◌then◌else◌}
use Rattle.std.specs.List.{flat_map}
use Rattle.fork_rank.specs.Pieces.{is_empty}
use Rattle.fork_rank.specs.RuleLines.{ended}

-- lines as they are spelled
abbrev pub lines_text : {L : Type 0} → (L → List ℕ) → List L → List ℕ
lines_text line_text lines = flat_map (λ line. ended (line_text line)) lines

-- the draft behind these lines, where each may come
abbrev pub drafted_lines : {D L : Type 0} → (D → L → Option D) → D → List L → Option D
drafted_lines drafted_line draft [] = Some draft
drafted_lines drafted_line draft (line ∷ lines) = option_and_then (λ next. drafted_lines drafted_line next lines) (drafted_line draft line)

-- reading on where the line may come
abbrev pub with_next : {D S : Type 0} → ℕ → Option D → (D → Result S ℕ) → Result S ℕ
with_next number None read = Err number
with_next number (Some draft) read = read draft

-- the lines from this number on, and what stands behind the last LF
abbrev pub lines_from : {D S : Type 0} → (D → List ℕ → Option D) → (ℕ → D → List ℕ → Result S ℕ) → ℕ → D → List (List ℕ) → Result S ℕ
lines_from drafted finished number draft [] = Err number
lines_from drafted finished number draft (line ∷ lines) =
    if is_empty lines then finished number draft line
    else with_next number (drafted draft line) (λ next. lines_from drafted finished (suc number) next lines)
