-- A setup is read of exactly the texts that spell it, and any other text is refused by its first malformed line.
use Rattle.proxy_config.proofs.Common.{◌≡◌, ℕ, ◌+◌, ◌<◌, Bool, true, false, cond, List, [], length, Some, None, Result, Ok, Err, refl, sym, ap, subst, ◌∙◌, arith, append-nil, slice_split, is, Setup, Line, line_text, IsLine, lines_of}
use Rattle.proxy_config.proofs.Common.{read_line, Draft, no_draft, drafted_line, drafted, is_whole, finished_draft, read_from, GivesSetup}
use Rattle.std.specs.Prelude.{IfOk, IfErr}
use Rattle.std.proofs.lemmas.List.Splits.{join_with_byte-slice_split, length-slice_split}
use Rattle.sip_lex.proofs.laws.Splits.{pieces_lack}
use Rattle.fork_rank.proofs.laws.Lines.{IsReader, read_lines, malformed, found, next_piece}
use Rattle.proxy_config.specs.declared.fault.SetupFault.{SetupFault}
use Rattle.proxy_config.specs.declared.fault.SetupFault.TheVariants as fault
use Rattle.proxy_config.specs.Configuration.{text_of, IsConfiguration, IsMalformedAt}
use Rattle.proxy_config.specs.inner.Reading.{read_setup}
use Rattle.proxy_config.specs.ReadView.{IsFaultOf}
use Rattle.proxy_config.proofs.LineLaws.{line_found}
use Rattle.proxy_config.proofs.SpelledLines.{line_read, line_lacks}
use Rattle.proxy_config.proofs.DraftedLines.{Fits, setup_drafted, setup_fits, whole_found, begins, next_due}

abbrev found_as : Setup → Result Setup ℕ
found_as s = Ok s

abbrev refused_as : ℕ → Result Setup ℕ
refused_as n = Err n

err_is : {m n : ℕ} → refused_as m ≡ refused_as n → m ≡ n
err_is e = cc

ok_err : {s : Setup} {n : ℕ} → found_as s ≡ refused_as n → ⊥
ok_err e = absurd cc

at_end : (number : ℕ) (draft : Draft) (m : ℕ) (b : Bool) → cond b (found_as draft.setup) (Err number) ≡ Err m → number ≡ m
at_end number draft m true e = absurd (ok_err e)
at_end number draft m false e = err_is e

-- a configuration is read one line at a time
reader : IsReader Fits IsLine line_text read_line drafted_line read_from
reader = record {
  lacks = λ line h. line_lacks line h.0 h.1;
  line_read = λ line h. line_read line h.0;
  line_found = line_found;
  none = λ number draft. refl;
  unended = λ number draft b bs. refl;
  at_end = λ number draft m e. at_end number draft m (is_whole draft.phase) e;
  goes_on = λ number draft text pieces next more due. next_piece drafted finished_draft number draft text pieces (Some next) more due;
  stops = λ number draft text pieces more none. next_piece drafted finished_draft number draft text pieces None more none;
}

-- ---- what is spelled is read

configuration_read : (text : List ℕ) (s : Setup) → IsConfiguration text s → read_setup text ≡ Ok s
unfolding read_setup
configuration_read text s h =
    let lines : List Line = lines_of h.0 s in
    let r = setup_drafted h.0 s h.1 in
    ap (λ (t : List ℕ). read_from 1 no_draft (slice_split (is 10) t)) (h.2 ∙ sym (append-nil (text_of lines)))
    ∙ read_lines reader 1 no_draft lines [] _ (setup_fits h.0 s h.1) r.due
    ∙ ap (λ (t : Bool). cond {A = Result Setup ℕ} t (Ok s) (Err (1 + length lines))) r.whole

-- ---- what is read is spelled

ok_is : {x y : Setup} → found_as x ≡ found_as y → x ≡ y
ok_is e = cc

found_end : (number : ℕ) (draft : Draft) (s : Setup) (b : Bool) → is_whole draft.phase ≡ b → cond b (found_as draft.setup) (Err number) ≡ Ok s → (is_whole draft.phase ≡ true) × (draft.setup ≡ s)
found_end number draft s true whole e = (whole, ok_is e)
found_end number draft s false whole e = absurd cc

configuration_found : (text : List ℕ) (s : Setup) → read_setup text ≡ Ok s → IsConfiguration text s
unfolding read_setup
configuration_found text s e =
    let f = found reader 1 no_draft (slice_split (is 10) text) s e in
    let end = found_end f.number f.next s (is_whole f.next.phase) refl f.end in
    let w = whole_found f.lines f.next f.right f.due end.0 in
    let spelled : text ≡ text_of (lines_of w.shown f.next.setup) = sym (join_with_byte-slice_split 10 text) ∙ f.spelled ∙ sym (ap text_of w.spelled) in
    let P : Setup → Type 0 = IsConfiguration text in
    subst P end.1 (w.shown, w.is, spelled)

-- ---- what is refused

none_some : {X : Type 0} {x : X} → None ≡ Some x → ⊥
none_some e = absurd cc

malformed_found : (text : List ℕ) (number : ℕ) → read_setup text ≡ Err number → IsMalformedAt text number
unfolding read_setup
malformed_found text number e =
    let some : 0 < length (slice_split (is 10) text) = omega (arith, length-slice_split (is 10) text) in
    let h = malformed reader 1 no_draft (slice_split (is 10) text) number some (pieces_lack 10 text) e in
    record {
      lines = h.lines;
      rest = h.rest;
      number = let c : number ≡ 1 + length h.lines = h.counted in omega arith;
      text_is = sym (join_with_byte-slice_split 10 text) ∙ h.whole;
      begins = begins h.lines h.end h.right h.due;
      wrong = λ line more at b.
          let n = next_due h.lines line h.end h.due b in
          none_some (sym (h.none line more n.fits at) ∙ n.due);
      partial = λ s is. ok_err (sym (configuration_read text s is) ∙ e);
    }

-- ---- so what a call gives says which text it was

pub gives_found : (text : List ℕ) (r : Result Setup SetupFault) → GivesSetup (read_setup text) r → IfOk r (IsConfiguration text)
gives_found text (Ok s) h = configuration_found text s h
gives_found text (Err f) h = tt

pub gives_only : (text : List ℕ) (r : Result Setup SetupFault) → GivesSetup (read_setup text) r → (s : Setup) → IsConfiguration text s → GivesSetup (Ok s) r
gives_only text r h s is =
    let P : Result Setup ℕ → Type 0 = λ read. GivesSetup read r in
    subst P (configuration_read text s is) h

pub gives_fault : (text : List ℕ) (r : Result Setup SetupFault) → GivesSetup (read_setup text) r → IfErr r (IsFaultOf text)
gives_fault text (Ok s) h = tt
gives_fault text (Err (fault.Line number)) h = malformed_found text number h
gives_fault text (Err fault.NoMemory) h = tt
