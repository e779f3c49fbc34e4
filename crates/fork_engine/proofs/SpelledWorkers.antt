-- A script with workers is read of exactly the texts that spell it, and any other text is refused by its first malformed
-- line.
use Rattle.std.proofs.Common.{◌≡◌, ℕ, ◌+◌, ◌<◌, Bool, true, false, cond, List, [], length, Option, Some, None, Result, Ok, Err, refl, sym, ap, subst, ◌∙◌, arith, append-nil}
use Rattle.std.specs.Prelude.{option_and_then, bytes_eq, IfOk, IfErr}
use Rattle.std.specs.Option.{option_map}
use Rattle.std.specs.List.{join_with_byte, slice_split}
use Rattle.std.proofs.lemmas.Option.{same_Some}
use Rattle.std.proofs.lemmas.Slice.Eq.{bytes_eq-Decides}
use Rattle.std.proofs.lemmas.List.Splits.{join_with_byte-slice_split, length-slice_split}
use Rattle.sip_lex.specs.Cut.{is, Lacks}
use Rattle.sip_lex.proofs.laws.Splits.{pieces_lack}
use Rattle.fork_rank.proofs.laws.Field.{found_map}
use Rattle.fork_rank.proofs.laws.Lines.{IsReader, read_lines, malformed, found, next_piece}
use Rattle.fork_program.specs.declared.script.ScriptFault.{ScriptFault}
use Rattle.fork_program.specs.declared.script.ScriptFault.TheVariants as read
use Rattle.fork_program.specs.Line as lines
use Rattle.fork_program.specs.Reading as plain
use Rattle.fork_program.specs.Script as single
use Rattle.fork_program.proofs.laws.FirstMalformed.{first_malformed}
use Rattle.fork_program.proofs.laws.LineLaws as line_laws
use Rattle.fork_program.proofs.laws.SpelledLines as laws
use Rattle.fork_engine.specs.Workers.{Workers}
use Rattle.fork_engine.specs.Spelling.{Spelling, Line, PlainLine, WorkerLine, worker_text, line_text, IsLine, lines_of, text_of, workers_of, IsSpelledAs, Spells}
use Rattle.fork_engine.specs.Malformed.{IsMalformedAt}
use Rattle.fork_engine.specs.inner.Reading.{Draft, no_draft, is_at_work, with_worker, with_last, drafted, workers_in, finished_draft, read_from, read_workers}
use Rattle.fork_engine.specs.inner.ReadView.{GivesWorkers, IsFaultOf}
use Rattle.fork_engine.proofs.DraftedWorkers.{drafted_line, script_drafted, whole_found, begins, next_due}

-- ---- one line

abbrev read_line : List ℕ → Option Line
read_line text = cond (bytes_eq text worker_text) (Some WorkerLine) (option_map PlainLine (plain.read_line text))

is_worker : (text : List ℕ) → bytes_eq text worker_text ≡ true → text ≡ worker_text
is_worker text e = (bytes_eq-Decides text worker_text).0 e

none_some : {X : Type 0} {x : X} → None ≡ Some x → ⊥
none_some e = absurd cc

not_worker : (line : lines.Line) → lines.IsLine line → bytes_eq (lines.line_text line) worker_text ≡ false
not_worker line h = go (bytes_eq (lines.line_text line) worker_text) refl
  where
    never : lines.line_text line ≡ worker_text → ⊥
    never e = none_some (ap plain.read_line (sym e) ∙ laws.line_read line h)

    go : (b : Bool) → bytes_eq (lines.line_text line) worker_text ≡ b → bytes_eq (lines.line_text line) worker_text ≡ false
    go true e = absurd (never (is_worker (lines.line_text line) e))
    go false e = e

line_read : (line : Line) → IsLine line → read_line (line_text line) ≡ Some line
line_read (PlainLine line) h =
    ap (λ b. cond b (Some WorkerLine) (option_map PlainLine (plain.read_line (lines.line_text line)))) (not_worker line h)
    ∙ ap (option_map PlainLine) (laws.line_read line h)
line_read WorkerLine h = refl

line_found : (text : List ℕ) (line : Line) → read_line text ≡ Some line → (text ≡ line_text line) × IsLine line
line_found text line e = go (bytes_eq text worker_text) refl e
  where
    go : (b : Bool) → bytes_eq text worker_text ≡ b → cond b (Some WorkerLine) (option_map PlainLine (plain.read_line text)) ≡ Some line → (text ≡ line_text line) × IsLine line
    go true same at = subst (λ (l : Line). (text ≡ line_text l) × IsLine l) (same_Some _ _ at) (is_worker text same, tt)
    go false same at =
        found_map PlainLine (plain.read_line text) line (λ l. (text ≡ line_text l) × IsLine l)
        (λ l read. let spelled = line_laws.line_found text l read in (spelled.0, spelled.1))
        at

line_lacks : (line : Line) → IsLine line → Lacks 10 (line_text line)
line_lacks (PlainLine line) h = laws.line_lacks line h
line_lacks WorkerLine h = grind arith

-- a line of either kind is taken as the reader takes its text
takes : (draft : Draft) (text : List ℕ) → drafted draft text ≡ option_and_then (drafted_line draft) (read_line text)
takes draft text = go (bytes_eq text worker_text) (plain.read_line text)
  where
    go : (b : Bool) (o : Option lines.Line)
        → cond b (with_worker draft) (option_and_then (with_last draft) (option_and_then (single.drafted_line draft.last) o))
        ≡ option_and_then (drafted_line draft) (cond b (Some WorkerLine) (option_map PlainLine o))
    go true o = refl
    go false None = refl
    go false (Some line) = refl

-- ---- the lines of a text

abbrev found_as : Workers → Result Workers ℕ
found_as w = Ok w

abbrev refused_as : ℕ → Result Workers ℕ
refused_as n = Err n

ok_err : {w : Workers} {n : ℕ} → found_as w ≡ refused_as n → ⊥
ok_err e = absurd cc

pub ok_is : {x y : Workers} → found_as x ≡ found_as y → x ≡ y
ok_is e = cc

at_end : (number : ℕ) (draft : Draft) (m : ℕ) (b : Bool) → cond b (found_as (workers_in draft)) (Err number) ≡ Err m → number ≡ m
at_end number draft m true e = absurd (ok_err e)
at_end number draft m false e = cc

-- a script with workers is read one line at a time
reader : IsReader IsLine IsLine line_text read_line drafted_line read_from
reader = record {
  lacks = line_lacks;
  line_read = line_read;
  line_found = line_found;
  none = λ number draft. refl;
  unended = λ number draft b bs. refl;
  at_end = λ number draft m e. at_end number draft m (is_at_work draft.last.phase) e;
  goes_on = λ number draft text pieces next more due. next_piece drafted finished_draft number draft text pieces (Some next) more (takes draft text ∙ due);
  stops = λ number draft text pieces more none. next_piece drafted finished_draft number draft text pieces None more (takes draft text ∙ none);
}

-- ---- what is spelled is read

spelled_read : (text : List ℕ) (s : Spelling) → IsSpelledAs text s → read_workers text ≡ Ok (workers_of s)
unfolding read_workers
spelled_read text s h =
    let lines : List Line = lines_of s in
    let r = script_drafted s h.0 in
    ap (λ (t : List ℕ). read_from 1 no_draft (slice_split (is 10) t)) (h.1 ∙ sym (append-nil (text_of lines)))
    ∙ read_lines reader 1 no_draft lines [] r.end h.0.lines r.due
    ∙ ap (λ (t : Bool). cond {A = Result Workers ℕ} t (Ok (workers_in r.end)) (Err (1 + length lines))) r.work
    ∙ ap found_as r.same

workers_read : (text : List ℕ) (workers : Workers) → Spells text workers → read_workers text ≡ Ok workers
workers_read text workers h = spelled_read text h.0 h.1 ∙ ap found_as h.2

-- ---- what is read is spelled

found_end : (number : ℕ) (draft : Draft) (workers : Workers) (b : Bool) → is_at_work draft.last.phase ≡ b → cond b (found_as (workers_in draft)) (Err number) ≡ Ok workers
    → (is_at_work draft.last.phase ≡ true) × (workers_in draft ≡ workers)
found_end number draft workers true work e = (work, ok_is e)
found_end number draft workers false work e = absurd (ok_err (sym e))

workers_found : (text : List ℕ) (workers : Workers) → read_workers text ≡ Ok workers → Spells text workers
unfolding read_workers
workers_found text workers e =
    let f = found reader 1 no_draft (slice_split (is 10) text) workers e in
    let end = found_end f.number f.next workers (is_at_work f.next.last.phase) refl f.end in
    let w = whole_found f.lines f.next f.right f.due end.0 in
    let spelled : text ≡ text_of (lines_of w.script) =
    sym (join_with_byte-slice_split 10 text) ∙ f.spelled ∙ ap text_of (sym w.spelled) in
    (w.script, (w.is, spelled), w.same ∙ end.1)

-- ---- what is refused

malformed_found : (text : List ℕ) (n : ℕ) → read_workers text ≡ Err n → IsMalformedAt text n
unfolding read_workers
malformed_found text n e =
    let some : 0 < length (slice_split (is 10) text) = omega (arith, length-slice_split (is 10) text) in
    let h = malformed reader 1 no_draft (slice_split (is 10) text) n some (pieces_lack 10 text) e in
    first_malformed no_draft text (join_with_byte 10 (slice_split (is 10) text)) n (sym (join_with_byte-slice_split 10 text)) h begins
    (λ lines line end due b.
    let next = next_due lines line end due b in
    (next.fits, (next.next, next.due)))
    (λ workers is. ok_err (sym (workers_read text workers is) ∙ e))

-- ---- so what a call gives says which text it was

pub gives_found : (text : List ℕ) (r : Result Workers ScriptFault) → GivesWorkers (read_workers text) r → IfOk r (Spells text)
gives_found text (Ok workers) h = workers_found text workers h
gives_found text (Err fault) h = tt

pub gives_only : (text : List ℕ) (r : Result Workers ScriptFault) → GivesWorkers (read_workers text) r → (workers : Workers) → Spells text workers → GivesWorkers (Ok workers) r
gives_only text (Ok found) h workers is = sym (workers_read text workers is) ∙ h
gives_only text (Err (read.Line number)) h workers is = sym (workers_read text workers is) ∙ h
gives_only text (Err read.NoMemory) h workers is = tt

pub gives_fault : (text : List ℕ) (r : Result Workers ScriptFault) → GivesWorkers (read_workers text) r → IfErr r (IsFaultOf text)
gives_fault text (Ok workers) h = tt
gives_fault text (Err (read.Line number)) h = malformed_found text number h
gives_fault text (Err read.NoMemory) h = tt
