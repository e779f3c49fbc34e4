-- Settings are read of exactly the texts that spell them, and any other text is refused by its first malformed line.
use Rattle.service_config.proofs.Common.{◌≡◌, ℕ, ◌+◌, ◌<◌, Bool, true, false, cond, List, [], length, Some, None, Result, Ok, Err, refl, sym, ap, subst, ◌∙◌, arith, append-nil, slice_split, is, IsLine, Line, is_whole, line_text}
use Rattle.std.specs.Prelude.{IfOk, IfErr}
use Rattle.std.proofs.lemmas.List.Splits.{join_with_byte-slice_split, length-slice_split}
use Rattle.sip_lex.proofs.laws.Splits.{pieces_lack}
use Rattle.fork_rank.proofs.laws.Lines.{IsReader, found, malformed, next_piece, read_lines}
use Rattle.proxy_config.specs.declared.fault.SetupFault.{SetupFault}
use Rattle.proxy_config.specs.declared.fault.SetupFault.TheVariants as fault
use Rattle.service_config.specs.Configuration.{AreLines, Draft, IsMalformedAt, IsServiceConfiguration, no_draft, text_of, with_draft}
use Rattle.service_config.specs.ReadView.{GivesSettings, IsFaultOf}
use Rattle.service_config.specs.Settings.{Settings}
use Rattle.service_config.specs.inner.LineReading.{read_line}
use Rattle.service_config.specs.inner.Reading.{finished, read_from, read_settings, with_text}
use Rattle.service_config.proofs.LineLaws.{line_found}
use Rattle.service_config.proofs.SpelledLines.{line_read}

abbrev found_as : Settings → Result Settings ℕ
found_as s = Ok s

abbrev refused_as : ℕ → Result Settings ℕ
refused_as n = Err n

err_is : {m n : ℕ} → refused_as m ≡ refused_as n → m ≡ n
err_is e = cc

ok_is : {x y : Settings} → found_as x ≡ found_as y → x ≡ y
ok_is e = cc

ok_err : {s : Settings} {n : ℕ} → found_as s ≡ refused_as n → ⊥
ok_err e = absurd cc

at_end : (number : ℕ) (draft : Draft) (m : ℕ) (b : Bool) → cond b (found_as draft.settings) (Err number) ≡ Err m → number ≡ m
at_end number draft m true e = absurd (ok_err e)
at_end number draft m false e = err_is e

-- a configuration is read one line at a time
reader : IsReader IsLine IsLine line_text read_line with_draft read_from
reader = record {
  lacks = λ line h. h.within;
  line_read = λ line h. line_read line h;
  line_found = line_found;
  none = λ number draft. refl;
  unended = λ number draft b bs. refl;
  at_end = λ number draft m e. at_end number draft m (is_whole draft.last) e;
  goes_on = λ number draft text pieces next more due. next_piece with_text finished number draft text pieces (Some next) more due;
  stops = λ number draft text pieces more none. next_piece with_text finished number draft text pieces None more none;
}

-- ---- what is spelled is read

configuration_read : (number : ℕ) (streams : Bool) (text : List ℕ) (s : Settings) → IsServiceConfiguration number streams text s → read_settings number streams text ≡ Ok s
unfolding read_settings
configuration_read number streams text s h =
    ap (λ (t : List ℕ). read_from 1 (no_draft number streams) (slice_split (is 10) t)) (h.spelled ∙ sym (append-nil (text_of h.lines)))
    ∙ read_lines reader 1 (no_draft number streams) h.lines [] h.draft h.are.each h.are.leads
    ∙ ap (λ (t : Bool). cond {A = Result Settings ℕ} t (Ok h.draft.settings) (Err (1 + length h.lines))) h.whole
    ∙ ap found_as h.says

-- ---- what is read is spelled

found_end : (number : ℕ) (draft : Draft) (s : Settings) (b : Bool) → is_whole draft.last ≡ b → cond b (found_as draft.settings) (Err number) ≡ Ok s → (is_whole draft.last ≡ true) × (draft.settings ≡ s)
found_end number draft s true whole e = (whole, ok_is e)
found_end number draft s false whole e = absurd cc

configuration_found : (number : ℕ) (streams : Bool) (text : List ℕ) (s : Settings) → read_settings number streams text ≡ Ok s → IsServiceConfiguration number streams text s
unfolding read_settings
configuration_found number streams text s e =
    let f = found reader 1 (no_draft number streams) (slice_split (is 10) text) s e in
    let end = found_end f.number f.next s (is_whole f.next.last) refl f.end in
    record {
      lines = f.lines;
      draft = f.next;
      are = record { each = f.right; leads = f.due };
      whole = end.0;
      says = end.1;
      spelled = sym (join_with_byte-slice_split 10 text) ∙ f.spelled;
    }

-- ---- what is refused

malformed_found : (number : ℕ) (streams : Bool) (text : List ℕ) (n : ℕ) → read_settings number streams text ≡ Err n → IsMalformedAt number streams text n
unfolding read_settings
malformed_found number streams text n e =
    let some : 0 < length (slice_split (is 10) text) = omega (arith, length-slice_split (is 10) text) in
    let h = malformed reader 1 (no_draft number streams) (slice_split (is 10) text) n some (pieces_lack 10 text) e in
    record {
      lines = h.lines;
      draft = h.end;
      rest = h.rest;
      counted = let c : n ≡ 1 + length h.lines = h.counted in omega arith;
      are = record { each = h.right; leads = h.due };
      spelled = sym (join_with_byte-slice_split 10 text) ∙ h.whole;
      wrong = λ line more is at. h.none line more is at;
      partial = λ s is. ok_err (sym (configuration_read number streams text s is) ∙ e);
    }

-- ---- so what a call gives says which text it was

pub gives_found : (number : ℕ) (streams : Bool) (text : List ℕ) (r : Result Settings SetupFault) → GivesSettings (read_settings number streams text) r → IfOk r (IsServiceConfiguration number streams text)
gives_found number streams text (Ok s) h = configuration_found number streams text s h
gives_found number streams text (Err f) h = tt

pub gives_only : (number : ℕ) (streams : Bool) (text : List ℕ) (r : Result Settings SetupFault) → GivesSettings (read_settings number streams text) r → (s : Settings) → IsServiceConfiguration number streams text s → GivesSettings (Ok s) r
gives_only number streams text r h s is =
    let P : Result Settings ℕ → Type 0 = λ read. GivesSettings read r in
    subst P (configuration_read number streams text s is) h

pub gives_fault : (number : ℕ) (streams : Bool) (text : List ℕ) (r : Result Settings SetupFault) → GivesSettings (read_settings number streams text) r → IfErr r (IsFaultOf number streams text)
gives_fault number streams text (Ok s) h = tt
gives_fault number streams text (Err (fault.Line n)) h = malformed_found number streams text n h
gives_fault number streams text (Err fault.NoMemory) h = tt
