-- A script is read of exactly the texts that spell it, and any other text is refused by exactly its first malformed line.
use Rattle.fork_program.proofs.Common.{◌≡◌, ℕ, suc, ◌+◌, ◌<◌, Bool, true, cond, List, [], ◌∷◌, ◌++◌, length, Option, Some, None, Result, Ok, Err, refl, sym, ap, ◌∙◌, arith, append_assoc, append-nil, option_and_then, IfOk, slice_split, is, ended}
use Rattle.fork_program.proofs.Common.{Line, line_text, IsLine, IsSpelledBy, read_line, Script, Draft, no_draft, drafted_line, drafted, has_kind, finished_draft, read_from, Spelling, lines_of, text_of, script_of, IsSpelledAs, Spells, GivesScript}
use Rattle.fork_program.proofs.Common.{common_steps}
use Rattle.std.specs.Prelude.{IfErr}
use Rattle.std.specs.List.{join_with_byte}
use Rattle.std.proofs.lemmas.List.Splits.{join_with_byte-slice_split, length-slice_split}
use Rattle.sip_lex.proofs.laws.Splits.{pieces_lack}
use Rattle.fork_rank.specs.LineByLine.{with_next}
use Rattle.fork_rank.proofs.laws.Lines.{IsReader, read_lines, malformed, found, next_piece}
use Rattle.fork_program.specs.declared.script.ScriptFault.{ScriptFault}
use Rattle.fork_program.specs.Script.{read_script}
use Rattle.fork_program.specs.Malformed.{IsMalformedAt}
use Rattle.fork_program.specs.Grammar.{ReadExactly, RefusedByFirst}
use Rattle.fork_program.specs.ReadView.{IsFaultOf}
use Rattle.fork_program.proofs.laws.FirstMalformed.{first_malformed}
use Rattle.fork_program.proofs.laws.LineLaws.{line_found}
use Rattle.fork_program.proofs.laws.SpelledLines.{line_read, line_lacks}
use Rattle.fork_program.proofs.laws.DraftedLines.{script_drafted, whole_found, begins, begins_with, lines_due, next_due}

abbrev found_as : Script → Result Script ℕ
found_as s = Ok s

abbrev refused_as : ℕ → Result Script ℕ
refused_as n = Err n

err_is : {m n : ℕ} → refused_as m ≡ refused_as n → m ≡ n
err_is e = cc

ok_err : {s : Script} {n : ℕ} → found_as s ≡ refused_as n → ⊥
ok_err e = absurd cc

at_end : (number : ℕ) (draft : Draft) (m : ℕ) (b : Bool) → cond b (found_as draft.script) (Err number) ≡ Err m → number ≡ m
at_end number draft m b e = grind arith

-- a script is read one line at a time
reader : IsReader IsLine IsLine line_text read_line drafted_line read_from
reader = record {
  lacks = line_lacks;
  line_read = line_read;
  line_found = line_found;
  none = λ number draft. refl;
  unended = λ number draft b bs. refl;
  at_end = λ number draft m e. at_end number draft m (has_kind draft.phase) e;
  goes_on = λ number draft text pieces next more due. next_piece drafted finished_draft number draft text pieces (Some next) more due;
  stops = λ number draft text pieces more none. next_piece drafted finished_draft number draft text pieces None more none;
}

-- ---- what is spelled is read

pub spelled_read : (text : List ℕ) (s : Spelling) → IsSpelledAs text s → read_script text ≡ Ok (script_of s)
unfolding read_script
spelled_read text s h =
    let lines : List Line = lines_of s in
    let r = script_drafted s h.0 in
    ap (λ (t : List ℕ). read_from 1 no_draft (slice_split (is 10) t)) (h.1 ∙ sym (append-nil (text_of lines)))
    ∙ read_lines reader 1 no_draft lines [] _ h.0.lines r.due
    ∙ ap (λ (t : Bool). cond {A = Result Script ℕ} t (Ok (script_of s)) (Err (1 + length lines))) r.whole

script_read : (text : List ℕ) (script : Script) → Spells text script → read_script text ≡ Ok script
script_read text script h = spelled_read text h.0 h.1 ∙ ap found_as h.2

-- ---- what is read is spelled

pub ok_is : {x y : Script} → found_as x ≡ found_as y → x ≡ y
ok_is e = cc

found_end : (number : ℕ) (draft : Draft) (script : Script) (b : Bool) → has_kind draft.phase ≡ b → cond b (found_as draft.script) (Err number) ≡ Ok script → (has_kind draft.phase ≡ true) × (draft.script ≡ script)
found_end number draft script b whole e = grind arith

script_found : (text : List ℕ) (script : Script) → read_script text ≡ Ok script → Spells text script
unfolding read_script
script_found text script e =
    let f = found reader 1 no_draft (slice_split (is 10) text) script e in
    let end = found_end f.number f.next script (has_kind f.next.phase) refl f.end in
    let w = whole_found f.lines f.next f.right f.due end.0 in
    grind (arith, common_steps, join_with_byte-slice_split 10 text)

pub read_exactly : ReadExactly
read_exactly text script = (script_found text script, script_read text script)

-- ---- what is refused

malformed_found : (text : List ℕ) (n : ℕ) → read_script text ≡ Err n → IsMalformedAt text n
unfolding read_script
malformed_found text n e =
    let some : 0 < length (slice_split (is 10) text) = omega (arith, length-slice_split (is 10) text) in
    let h = malformed reader 1 no_draft (slice_split (is 10) text) n some (pieces_lack 10 text) e in
    first_malformed no_draft text (join_with_byte 10 (slice_split (is 10) text)) n (sym (join_with_byte-slice_split 10 text)) h begins
    (λ lines line end due b.
    let next = next_due lines line end due b in
    (next.fits, (next.next, next.due)))
    (λ script is. ok_err (sym (script_read text script is) ∙ e))

-- the first malformed line is that which is told: the lines before it are read, and reading ends there
reads_to : (number : ℕ) (draft : Draft) (rest : List ℕ) (pieces : List (List ℕ)) → rest ≡ join_with_byte 10 pieces
    → ((line : Line) (more : List ℕ) → IsLine line → rest ≡ ended (line_text line) ++ more → drafted_line draft line ≡ None)
    → ((script : Script) → read_from number draft pieces ≡ Ok script → ⊥)
    → read_from number draft pieces ≡ Err number
reads_to number draft rest [] same none never = refl
reads_to number draft rest ([] ∷ []) same none never = grind arith
reads_to number draft rest ((b ∷ bs) ∷ []) same none never = refl
reads_to number draft rest (text ∷ next ∷ pieces) same none never = one (read_line text) refl
  where
    one : (o : Option Line) → read_line text ≡ o → with_next number (option_and_then (drafted_line draft) o) (λ d. read_from (suc number) d (next ∷ pieces)) ≡ Err number
    one None read = refl
    one (Some line) read =
        let spelled : IsSpelledBy text line = line_found text line read in
        let whole : rest ≡ ended (line_text line) ++ join_with_byte 10 (next ∷ pieces) =
        same
        ∙ ap (λ (t : List ℕ). t ++ 10 ∷ join_with_byte 10 (next ∷ pieces)) spelled.0
        ∙ sym (append_assoc (line_text line) (10 ∷ []) (join_with_byte 10 (next ∷ pieces))) in
        ap (λ (o : Option Draft). with_next number o (λ d. read_from (suc number) d (next ∷ pieces))) (none line (join_with_byte 10 (next ∷ pieces)) spelled.1 whole)

none_due : (o : Option Draft) → ((next : Draft) → o ≡ Some next → ⊥) → o ≡ None
none_due o never = grind arith

malformed_told : (text : List ℕ) (n : ℕ) → IsMalformedAt text n → read_script text ≡ Err n
unfolding read_script
malformed_told text n h =
    let front = lines_due h.lines h.begins in
    let at : read_script text ≡ read_from (1 + length h.lines) front.next (slice_split (is 10) h.rest) =
    ap (λ (t : List ℕ). read_from 1 no_draft (slice_split (is 10) t)) h.text_is ∙ read_lines reader 1 no_draft h.lines h.rest front.next front.right front.due in
    let none : (line : Line) (more : List ℕ) → IsLine line → h.rest ≡ ended (line_text line) ++ more → drafted_line front.next line ≡ None =
    λ line more fits stands. none_due (drafted_line front.next line) (λ next due. h.wrong line more stands (begins_with h.lines line front.next next front.right fits front.due due)) in
    let told : read_from (1 + length h.lines) front.next (slice_split (is 10) h.rest) ≡ Err (1 + length h.lines) =
    reads_to (1 + length h.lines) front.next h.rest (slice_split (is 10) h.rest) (sym (join_with_byte-slice_split 10 h.rest)) none
    (λ script e. h.partial script (script_found text script (at ∙ e))) in
    grind (arith, common_steps)

pub refused_by_first : RefusedByFirst
refused_by_first text n = (malformed_found text n, malformed_told text n)

-- ---- so what a call gives says which text it was

pub gives_found : (text : List ℕ) (r : Result Script ScriptFault) → GivesScript (read_script text) r → IfOk r (Spells text)
gives_found text r h = grind (arith, common_steps, script_found)

pub gives_only : (text : List ℕ) (r : Result Script ScriptFault) → GivesScript (read_script text) r → (s : Script) → Spells text s → GivesScript (Ok s) r
gives_only text r h s is = grind (arith, common_steps, script_read text s is)

pub gives_fault : (text : List ℕ) (r : Result Script ScriptFault) → GivesScript (read_script text) r → IfErr r (IsFaultOf text)
gives_fault text r h = grind (arith, common_steps, malformed_found)
