-- The line with a number, in a text of lines.
use Rattle.std.proofs.Common.{◌≡◌, ◌≢◌, ℕ, zero, suc, ◌-◌, ◌<◌, ◌≤◌, List, [], ◌∷◌, ◌++◌, length, Option, Some, None, refl, sym, ap, ◌∙◌, arith, append-nil, option_and_then}
use Rattle.std.proofs.lemmas.Bool.{cond-false, ne_eqb}
use Rattle.sip_lex.specs.Cut.{Lacks, cut, is}
use Rattle.sip_lex.proofs.laws.Cuts.{cut_again}
use Rattle.proxy_config.specs.TextLine.{AreLines, behind_lines, ended_line, first_line, line_at, written}

abbrev Cut : Type 0
Cut = List ℕ × Option (List ℕ)

-- ---- one line further

further : (count : ℕ) (text : List ℕ) → 0 < count → behind_lines count text ≡ option_and_then (behind_lines (count - 1)) (cut (is 10) text).1
further zero text some = absurd (omega arith)
further (suc count) text some =
    let same : count ≡ suc count - 1 = omega arith in
    ap (λ (n : ℕ). option_and_then (behind_lines n) (cut (is 10) text).1) same

pub behind_one : (count : ℕ) (text line after : List ℕ) → 0 < count → (line, Some after) ≡ cut (is 10) text → behind_lines (count - 1) after ≡ behind_lines count text
behind_one count text line after some e =
    ap (λ (c : Cut). option_and_then (behind_lines (count - 1)) c.1) e ∙ sym (further count text some)

-- ---- lines as they are written

line_behind : (text : List ℕ) (count : ℕ) → line_at text (suc count) ≡ option_and_then first_line (behind_lines count text)
line_behind text count =
    let apart : suc count ≢ 0 = omega arith in
    let same : suc count - 1 ≡ count = omega arith in
    cond-false _ _ _ (ne_eqb (suc count) 0 apart) ∙ ap (λ (n : ℕ). option_and_then first_line (behind_lines n text)) same

behind_written : (lines : List (List ℕ)) (rest : List ℕ) → AreLines lines → behind_lines (length lines) (written lines rest) ≡ Some rest
behind_written [] rest are = refl
behind_written (line ∷ lines) rest are =
    ap (λ (c : Cut). option_and_then (behind_lines (length lines)) c.1) (cut_again 10 line (Some (written lines rest)) are.0)
    ∙ behind_written lines rest are.1

line_found : (lines : List (List ℕ)) (line rest : List ℕ) → AreLines lines → Lacks 10 line → line_at (written lines (line ++ 10 ∷ rest)) (suc (length lines)) ≡ Some line
line_found lines line rest are is_line =
    line_behind (written lines (line ++ 10 ∷ rest)) (length lines)
    ∙ ap (option_and_then first_line) (behind_written lines (line ++ 10 ∷ rest) are)
    ∙ ap ended_line (cut_again 10 line (Some rest) is_line)

uncut : (rest : List ℕ) → Lacks 10 rest → cut (is 10) rest ≡ (rest, None)
uncut rest lacks = ap (cut (is 10)) (sym (append-nil rest)) ∙ cut_again 10 rest None lacks

none_behind : (lines : List (List ℕ)) (count : ℕ) (rest : List ℕ) → AreLines lines → Lacks 10 rest → length lines ≤ count
    → option_and_then first_line (behind_lines count (written lines rest)) ≡ None
none_behind [] zero rest are lacks few = ap ended_line (uncut rest lacks)
none_behind [] (suc count) rest are lacks few =
    ap (λ (c : Cut). option_and_then first_line (option_and_then (behind_lines count) c.1)) (uncut rest lacks)
none_behind (line ∷ lines) zero rest are lacks few = absurd (omega arith)
none_behind (line ∷ lines) (suc count) rest are lacks few =
    let fewer : length lines ≤ count = omega arith in
    ap (λ (c : Cut). option_and_then first_line (option_and_then (behind_lines count) c.1)) (cut_again 10 line (Some (written lines rest)) are.0)
    ∙ none_behind lines count rest are.1 lacks fewer

line_missing : (lines : List (List ℕ)) (rest : List ℕ) (number : ℕ) → AreLines lines → Lacks 10 rest → length lines < number → line_at (written lines rest) number ≡ None
line_missing lines rest zero are lacks few = absurd (omega arith)
line_missing lines rest (suc count) are lacks few =
    let fewer : length lines ≤ count = omega arith in
    line_behind (written lines rest) count ∙ none_behind lines count rest are lacks fewer

-- ---- their forms

module _ {F : Type 0} (form_of : Option (List ℕ) → F) where
  pub form_found : (text : List ℕ) (number : ℕ) (form : F) → form ≡ form_of (line_at text number) → (lines : List (List ℕ)) (line rest : List ℕ) → AreLines lines → Lacks 10 line
      → text ≡ written lines (line ++ 10 ∷ rest) → number ≡ suc (length lines) → form ≡ form_of (Some line)
  form_found text number form e lines line rest are is_line whole place =
      e
      ∙ ap (λ (t : List ℕ). form_of (line_at t number)) whole
      ∙ ap (λ (n : ℕ). form_of (line_at (written lines (line ++ 10 ∷ rest)) n)) place
      ∙ ap form_of (line_found lines line rest are is_line)

  pub form_missing : (text : List ℕ) (number : ℕ) (form : F) → form ≡ form_of (line_at text number) → (lines : List (List ℕ)) (rest : List ℕ) → AreLines lines → Lacks 10 rest
      → text ≡ written lines rest → length lines < number → form ≡ form_of None
  form_missing text number form e lines rest are lacks whole few =
      e ∙ ap (λ (t : List ℕ). form_of (line_at t number)) whole ∙ ap form_of (line_missing lines rest number are lacks few)
