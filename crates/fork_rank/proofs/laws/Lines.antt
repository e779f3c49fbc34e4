-- A text that is read one line at a time: what its lines lead to, and the line that it is refused by.
use Rattle.fork_rank.proofs.TextCommon.{◌≡◌, ℕ, ◌<◌, Bool, true, false, cond, List, [], ◌∷◌, ◌++◌, length, Option, Some, None, refl, sym, ap, subst, ◌∙◌, arith, append_assoc, option_and_then, option_copied, slice_split, join_with_byte, length-append}
use Rattle.fork_rank.proofs.TextCommon.{same_Some, cut, is, Lacks, cut_again, cut_joins, is_empty, suc, ◌+◌}
use Rattle.std.proofs.Common.{Result, Ok, Err, Bor}
use Rattle.std.specs.List.{AllByRecursion}
use Rattle.sip_lex.specs.Cut as cuts
use Rattle.sip_lex.proofs.laws.Cuts.{Lacks-back}
use Rattle.fork_rank.specs.LineByLine.{lines_text, drafted_lines, with_next, lines_from}
use Rattle.fork_rank.specs.RuleLines.{ended}
use Rattle.fork_rank.proofs.laws.Pieces.{pieces-cut, is_empty-slice_split}

module _ {X : Type 0} (P : X → Type 0) where
  pub all_append : (xs ys : List X) → AllByRecursion P xs → AllByRecursion P ys → AllByRecursion P (xs ++ ys)
  all_append [] ys h k = k
  all_append (x ∷ xs) ys h k = (h.0, all_append xs ys h.1 k)

  -- those at the front, and the next
  pub all_front : (xs ys : List X) → AllByRecursion P (xs ++ ys) → AllByRecursion P xs
  all_front [] ys h = tt
  all_front (x ∷ xs) ys h = (h.0, all_front xs ys h.1)

  pub all_back : (xs ys : List X) → AllByRecursion P (xs ++ ys) → AllByRecursion P ys
  all_back [] ys h = h
  all_back (x ∷ xs) ys h = all_back xs ys h.1

module _ {D L : Type 0} (drafted_line : D → L → Option D) where
  abbrev drafted_by : D → List L → Option D
  drafted_by draft lines = drafted_lines drafted_line draft lines

  pub drafted_append : (draft : D) (lines more : List L) (next : D) → drafted_by draft lines ≡ Some next
      → drafted_by draft (lines ++ more) ≡ drafted_by next more
  drafted_append draft [] more next e = ap (λ (d : D). drafted_by d more) (same_Some _ _ e)
  drafted_append draft (line ∷ lines) more next e = one (drafted_line draft line) e (λ d due. drafted_append d lines more next due)
    where
      one : (o : Option D) → option_and_then (λ d. drafted_by d lines) o ≡ Some next
          → ((d : D) → drafted_by d lines ≡ Some next → drafted_by d (lines ++ more) ≡ drafted_by next more)
          → option_and_then (λ d. drafted_by d (lines ++ more)) o ≡ drafted_by next more
      one None e again = absurd cc
      one (Some d) e again = again d e

-- ---- from one line to the next

module _ {D : Type 0} where
  -- what adding a line answers
  pub if_added : (b : Bool) (new : D) (o : Option D) → cond b (Some new) None ≡ o → b ≡ true → o ≡ Some new
  if_added b new o e is = sym e ∙ ap (λ t. cond t (Some new) None) is

  pub if_not_added : (b : Bool) (new : D) (o : Option D) → cond b (Some new) None ≡ o → b ≡ false → o ≡ None
  if_not_added b new o e is = sym e ∙ ap (λ t. cond t (Some new) None) is

module _ {D S : Type 0} (drafted : D → List ℕ → Option D) (finished : ℕ → D → List ℕ → Result S ℕ) where
  -- reading on from a piece that others follow
  pub next_piece : (number : ℕ) (draft : D) (line : List ℕ) (lines : List (List ℕ)) (o : Option D) → is_empty lines ≡ false → drafted draft line ≡ o
      → lines_from drafted finished number draft (line ∷ lines) ≡ with_next number o (λ next. lines_from drafted finished (suc number) next lines)
  next_piece number draft line lines o e due =
      ap (λ t. cond t (finished number draft line) (with_next number (drafted draft line) (λ next. lines_from drafted finished (suc number) next lines))) e
      ∙ ap (λ (d : Option D). with_next number d (λ next. lines_from drafted finished (suc number) next lines)) due

  next_cut : (number : ℕ) (draft : D) (rest line after : List ℕ) (o : Option D) → (line, Some after) ≡ cut (is 10) rest → drafted draft line ≡ o
      → lines_from drafted finished number draft (slice_split (is 10) rest) ≡ with_next number o (λ next. lines_from drafted finished (suc number) next (slice_split (is 10) after))
  next_cut number draft rest line after o e due =
      ap (lines_from drafted finished number draft) (pieces-cut 10 rest (line, Some after) e)
      ∙ next_piece number draft line (slice_split (is 10) after) o (is_empty-slice_split 10 after) due

  -- a cut in memory: nothing follows its LF, or this does
  last_seen : (rest line : List ℕ) (more : Option (Bor (List ℕ))) → more ≡ None → (line, option_copied more) ≡ cut (is 10) rest → (line, None) ≡ cut (is 10) rest
  last_seen rest line more last seen = ap (λ (back : Option (List ℕ)). (line, back)) (sym (ap option_copied last)) ∙ seen

  next_seen : (rest line : List ℕ) (more : Option (Bor (List ℕ))) (after : Bor (List ℕ)) → more ≡ Some after → (line, option_copied more) ≡ cut (is 10) rest → (line, Some after.now) ≡ cut (is 10) rest
  next_seen rest line more after there seen = ap (λ (back : Option (List ℕ)). (line, back)) (sym (ap option_copied there)) ∙ seen

  shorter : (rest line after : List ℕ) → (line, Some after) ≡ cut (is 10) rest → length after < length rest
  shorter rest line after e =
      let P : List ℕ × Option (List ℕ) → Type 0 = λ c. rest ≡ c.0 ++ cuts.behind 10 c.1 in
      let whole : rest ≡ line ++ 10 ∷ after = subst P (sym e) (cut_joins 10 rest) in
      let count : length rest ≡ length line + suc (length after) = ap length whole ∙ length-append line (10 ∷ after) in
      omega arith

  -- what the whole reads as, where this line is the last
  pub at_last_line : (number : ℕ) (draft : D) (rest line : List ℕ) (more : Option (Bor (List ℕ))) (whole : Result S ℕ) → more ≡ None → (line, option_copied more) ≡ cut (is 10) rest
      → lines_from drafted finished number draft (slice_split (is 10) rest) ≡ whole → finished number draft line ≡ whole
  at_last_line number draft rest line more whole last seen reads =
      sym (ap (lines_from drafted finished number draft) (pieces-cut 10 rest (line, None) (last_seen rest line more last seen))) ∙ reads

  -- where it may not come
  pub at_wrong_line : (number : ℕ) (draft : D) (rest line : List ℕ) (more : Option (Bor (List ℕ))) (after : Bor (List ℕ)) (whole : Result S ℕ) → more ≡ Some after → (line, option_copied more) ≡ cut (is 10) rest
      → drafted draft line ≡ None → lines_from drafted finished number draft (slice_split (is 10) rest) ≡ whole → whole ≡ Err number
  at_wrong_line number draft rest line more after whole there seen none reads =
      sym reads ∙ next_cut number draft rest line after.now None (next_seen rest line more after there seen) none

  -- and where it may
  pub behind_line : (number : ℕ) (draft next : D) (rest line : List ℕ) (more : Option (Bor (List ℕ))) (after : Bor (List ℕ)) (whole : Result S ℕ) → more ≡ Some after → (line, option_copied more) ≡ cut (is 10) rest
      → drafted draft line ≡ Some next → lines_from drafted finished number draft (slice_split (is 10) rest) ≡ whole
      → (lines_from drafted finished (number + 1) next (slice_split (is 10) after.now) ≡ whole) × (length after.now < length rest)
  behind_line number draft next rest line more after whole there seen due reads =
      let e : (line, Some after.now) ≡ cut (is 10) rest = next_seen rest line more after there seen in
      let one : number + 1 ≡ suc number = omega arith in (
        ap (λ n. lines_from drafted finished n next (slice_split (is 10) after.now)) one ∙ sym (next_cut number draft rest line after.now (Some next) e due) ∙ reads,
        shorter rest line after.now e,
      )

-- ---- a reader that takes a text one line at a time

-- reading on behind a line that may come; no reading on behind another one, and none at a last line without its LF
pub record IsReader {D L S : Type 0} (Fits IsLine : L → Type 0) (line_text : L → List ℕ) (read_line : List ℕ → Option L) (drafted_line : D → L → Option D) (read : ℕ → D → List (List ℕ) → Result S ℕ) : Type 0 where
  pub lacks : (line : L) → Fits line → Lacks 10 (line_text line)
  pub line_read : (line : L) → Fits line → read_line (line_text line) ≡ Some line
  pub line_found : (text : List ℕ) (line : L) → read_line text ≡ Some line → (text ≡ line_text line) × IsLine line
  pub none : (number : ℕ) (draft : D) → read number draft [] ≡ Err number
  pub unended : (number : ℕ) (draft : D) (b : ℕ) (bs : List ℕ) → read number draft ((b ∷ bs) ∷ []) ≡ Err number
  pub at_end : (number : ℕ) (draft : D) (m : ℕ) → read number draft ([] ∷ []) ≡ Err m → number ≡ m
  pub goes_on : (number : ℕ) (draft : D) (text : List ℕ) (pieces : List (List ℕ)) (next : D) → is_empty pieces ≡ false
      → option_and_then (drafted_line draft) (read_line text) ≡ Some next → read number draft (text ∷ pieces) ≡ read (suc number) next pieces
  pub stops : (number : ℕ) (draft : D) (text : List ℕ) (pieces : List (List ℕ)) → is_empty pieces ≡ false
      → option_and_then (drafted_line draft) (read_line text) ≡ None → read number draft (text ∷ pieces) ≡ Err number

-- what lacks an LF begins with no line
never_ended : (text line more : List ℕ) → Lacks 10 text → text ≡ ended line ++ more → ⊥
never_ended text line more lacks e =
    let P : List ℕ → Type 0 = Lacks 10 in
    let whole : Lacks 10 (line ++ 10 ∷ more) = subst P (e ∙ append_assoc line (10 ∷ []) more) lacks in
    (Lacks-back 10 line (10 ∷ more) whole).0 refl

not_empty : (text more : List ℕ) → text ++ 10 ∷ more ≡ [] → ⊥
not_empty [] more e = absurd cc
not_empty (b ∷ text) more e = absurd cc

module _ {S : Type 0} where
  abbrev refused_as : ℕ → Result S ℕ
  refused_as n = Err n

  err_is : {m n : ℕ} → refused_as m ≡ refused_as n → m ≡ n
  err_is e = cc

  ok_err : {x : S} {n : ℕ} → Ok x ≡ refused_as n → ⊥
  ok_err e = absurd cc

module _ {D L S : Type 0} {Fits IsLine : L → Type 0} {line_text : L → List ℕ} {read_line : List ℕ → Option L} {drafted_line : D → L → Option D} {read : ℕ → D → List (List ℕ) → Result S ℕ}
    (reader : IsReader Fits IsLine line_text read_line drafted_line read) where
  -- reading on from a text that is cut at its first LF
  pub reads_on : (number : ℕ) (draft next : D) (rest line after : List ℕ) → (line, Some after) ≡ cut (is 10) rest → option_and_then (drafted_line draft) (read_line line) ≡ Some next
      → read number draft (slice_split (is 10) rest) ≡ read (suc number) next (slice_split (is 10) after)
  reads_on number draft next rest line after e due =
      ap (read number draft) (pieces-cut 10 rest (line, Some after) e) ∙ reader.goes_on number draft line (slice_split (is 10) after) next (is_empty-slice_split 10 after) due

  cut_line : (line : L) (more : List ℕ) → Fits line → (line_text line, Some more) ≡ cut (is 10) (ended (line_text line) ++ more)
  cut_line line more h =
      sym (ap (cut (is 10)) (append_assoc (line_text line) (10 ∷ []) more) ∙ cut_again 10 (line_text line) (Some more) (reader.lacks line h))

  -- behind lines that may come
  pub read_lines : (number : ℕ) (draft : D) (lines : List L) (more : List ℕ) (next : D) → AllByRecursion Fits lines → drafted_lines drafted_line draft lines ≡ Some next
      → read number draft (slice_split (is 10) (lines_text line_text lines ++ more)) ≡ read (number + length lines) next (slice_split (is 10) more)
  read_lines number draft [] more next all e =
      let same : draft ≡ next = same_Some _ _ e in
      let none : number ≡ number + 0 = omega arith in
      ap (λ (d : D). read number d (slice_split (is 10) more)) same ∙ ap (λ n. read n next (slice_split (is 10) more)) none
  read_lines number draft (line ∷ lines) more next all e =
      one (drafted_line draft line) refl e (λ d due. read_lines (suc number) d lines more next all.1 due)
    where
      one : (o : Option D) → drafted_line draft line ≡ o → option_and_then (λ d. drafted_lines drafted_line d lines) o ≡ Some next
          → ((d : D) → drafted_lines drafted_line d lines ≡ Some next → read (suc number) d (slice_split (is 10) (lines_text line_text lines ++ more)) ≡ read (suc number + length lines) next (slice_split (is 10) more))
          → read number draft (slice_split (is 10) (lines_text line_text (line ∷ lines) ++ more)) ≡ read (number + length (line ∷ lines)) next (slice_split (is 10) more)
      one None due e again = absurd cc
      one (Some d) due e again =
          let count : suc number + length lines ≡ number + length (line ∷ lines) = omega arith in
          let reads : option_and_then (drafted_line draft) (read_line (line_text line)) ≡ Some d = ap (option_and_then (drafted_line draft)) (reader.line_read line all.0) ∙ due in
          ap (λ (t : List ℕ). read number draft (slice_split (is 10) t)) (append_assoc (ended (line_text line)) (lines_text line_text lines) more)
          ∙ reads_on number draft d (ended (line_text line) ++ (lines_text line_text lines ++ more)) (line_text line) (lines_text line_text lines ++ more) (cut_line line (lines_text line_text lines ++ more) all.0) reads
          ∙ again d e
          ∙ ap (λ n. read n next (slice_split (is 10) more)) count

  -- the line at the front is the only one that the text begins with
  one_line : (text more : List ℕ) (line : L) (back : List ℕ) → Lacks 10 text → Fits line → text ++ 10 ∷ more ≡ ended (line_text line) ++ back → text ≡ line_text line
  one_line text more line back lacks h e =
      ap (λ (p : List ℕ × Option (List ℕ)). p.0) (sym (cut_again 10 text (Some more) lacks) ∙ ap (cut (is 10)) e ∙ sym (cut_line line back h))

module _ {D L : Type 0} (Fits : L → Type 0) (line_text : L → List ℕ) (drafted_line : D → L → Option D) where
  -- no line that may come stands at the front of the rest
  abbrev pub NoneDue : D → List ℕ → Type 0
  NoneDue draft rest = (line : L) (more : List ℕ) → Fits line → rest ≡ ended (line_text line) ++ more → drafted_line draft line ≡ None

-- these lines may come, and what stands behind them is refused there
pub record MalformedFrom {D L S : Type 0} (Fits IsLine : L → Type 0) (line_text : L → List ℕ) (drafted_line : D → L → Option D) (read : ℕ → D → List (List ℕ) → Result S ℕ) (number : ℕ) (draft : D) (text : List ℕ) (m : ℕ) : Type 0 where
  pub lines : List L
  pub right : AllByRecursion IsLine lines
  pub end : D
  pub due : drafted_lines drafted_line draft lines ≡ Some end
  pub rest : List ℕ
  pub whole : text ≡ lines_text line_text lines ++ rest
  pub none : NoneDue Fits line_text drafted_line end rest
  pub ends : rest ≡ [] → read m end ([] ∷ []) ≡ Err m
  pub counted : m ≡ number + length lines

module _ {D L S : Type 0} {Fits IsLine : L → Type 0} {line_text : L → List ℕ} {read_line : List ℕ → Option L} {drafted_line : D → L → Option D} {read : ℕ → D → List (List ℕ) → Result S ℕ}
    (reader : IsReader Fits IsLine line_text read_line drafted_line read) where
  abbrev Malformed : ℕ → D → List ℕ → ℕ → Type 0
  Malformed number draft text m = MalformedFrom Fits IsLine line_text drafted_line read number draft text m

  here : (number : ℕ) (draft : D) (text : List ℕ) (m : ℕ) → number ≡ m → NoneDue Fits line_text drafted_line draft text → (text ≡ [] → read m draft ([] ∷ []) ≡ Err m) → Malformed number draft text m
  here number draft text m same none ends = record {
    lines = [];
    right = tt;
    end = draft;
    due = refl;
    rest = text;
    whole = refl;
    none = none;
    ends = ends;
    counted = omega arith;
  }

  pub malformed : (number : ℕ) (draft : D) (pieces : List (List ℕ)) (m : ℕ) → 0 < length pieces → AllByRecursion (Lacks 10) pieces → read number draft pieces ≡ Err m
      → Malformed number draft (join_with_byte 10 pieces) m
  malformed number draft [] m some lack e = absurd (omega arith)
  malformed number draft ([] ∷ []) m some lack e =
      let same : number ≡ m = reader.at_end number draft m e in
      let P : ℕ → Type 0 = λ n. read n draft ([] ∷ []) ≡ Err m in
      here number draft [] m same (λ line more h begins. absurd (never_ended [] (line_text line) more tt begins)) (λ empty. subst P same e)
  malformed number draft ((b ∷ bs) ∷ []) m some lack e =
      here number draft (b ∷ bs) m (err_is (sym (reader.unended number draft b bs) ∙ e))
      (λ line more h begins. absurd (never_ended (b ∷ bs) (line_text line) more lack.0 begins)) (λ empty. absurd cc)
  malformed number draft (text ∷ next ∷ pieces) m some lack e =
      one (read_line text) refl (λ d rest. malformed (suc number) d (next ∷ pieces) m (omega arith) lack.1 rest)
    where
      more : List ℕ
      more = join_with_byte 10 (next ∷ pieces)

      refused : option_and_then (drafted_line draft) (read_line text) ≡ None → Malformed number draft (text ++ 10 ∷ more) m
      refused none =
          here number draft (text ++ 10 ∷ more) m (err_is (sym (reader.stops number draft text (next ∷ pieces) refl none) ∙ e))
          (λ line back h begins.
          let spelled : text ≡ line_text line = one_line reader text more line back lack.0 h begins in
          let reads : read_line text ≡ Some line = ap read_line spelled ∙ reader.line_read line h in
          sym (ap (option_and_then (drafted_line draft)) reads) ∙ none)
          (λ empty. absurd (not_empty text more empty))

      behind : (line : L) → read_line text ≡ Some line → (o : Option D) → drafted_line draft line ≡ o
          → ((d : D) → read (suc number) d (next ∷ pieces) ≡ Err m → Malformed (suc number) d more m)
          → Malformed number draft (text ++ 10 ∷ more) m
      behind line at None due again = refused (ap (option_and_then (drafted_line draft)) at ∙ due)
      behind line at (Some d) due again =
          let spelled = reader.line_found text line at in
          let rest = again d (sym (reader.goes_on number draft text (next ∷ pieces) d refl (ap (option_and_then (drafted_line draft)) at ∙ due)) ∙ e) in
          let joined : text ++ 10 ∷ more ≡ (ended (line_text line) ++ lines_text line_text rest.lines) ++ rest.rest =
          ap (λ (t : List ℕ). t ++ 10 ∷ more) spelled.0
          ∙ ap (λ (t : List ℕ). line_text line ++ 10 ∷ t) rest.whole
          ∙ sym (append_assoc (line_text line) (10 ∷ []) (lines_text line_text rest.lines ++ rest.rest))
          ∙ sym (append_assoc (ended (line_text line)) (lines_text line_text rest.lines) rest.rest) in
          let count : m ≡ suc number + length rest.lines = rest.counted in
          record {
            lines = line ∷ rest.lines;
            right = (spelled.1, rest.right);
            end = rest.end;
            due = ap (option_and_then (λ d. drafted_lines drafted_line d rest.lines)) due ∙ rest.due;
            rest = rest.rest;
            whole = joined;
            none = rest.none;
            ends = rest.ends;
            counted = omega arith;
          }

      one : (o : Option L) → read_line text ≡ o
          → ((d : D) → read (suc number) d (next ∷ pieces) ≡ Err m → Malformed (suc number) d more m)
          → Malformed number draft (text ++ 10 ∷ more) m
      one None at again = refused (ap (option_and_then (drafted_line draft)) at)
      one (Some line) at again = behind line at (drafted_line draft line) refl again

-- the lines that are read, and what a text without more of them reads as behind them
pub record FoundLines {D L S : Type 0} (IsLine : L → Type 0) (line_text : L → List ℕ) (drafted_line : D → L → Option D) (read : ℕ → D → List (List ℕ) → Result S ℕ) (draft : D) (text : List ℕ) (s : S) : Type 0 where
  pub lines : List L
  pub right : AllByRecursion IsLine lines
  pub next : D
  pub due : drafted_lines drafted_line draft lines ≡ Some next
  pub number : ℕ
  pub end : read number next ([] ∷ []) ≡ Ok s
  pub spelled : text ≡ lines_text line_text lines

module _ {D L S : Type 0} {Fits IsLine : L → Type 0} {line_text : L → List ℕ} {read_line : List ℕ → Option L} {drafted_line : D → L → Option D} {read : ℕ → D → List (List ℕ) → Result S ℕ}
    (reader : IsReader Fits IsLine line_text read_line drafted_line read) where
  abbrev Found : D → List ℕ → S → Type 0
  Found draft text s = FoundLines IsLine line_text drafted_line read draft text s

  pub found : (number : ℕ) (draft : D) (pieces : List (List ℕ)) (s : S) → read number draft pieces ≡ Ok s → Found draft (join_with_byte 10 pieces) s
  found number draft [] s e = absurd (ok_err (sym e ∙ reader.none number draft))
  found number draft ([] ∷ []) s e = record {
    lines = [];
    right = tt;
    next = draft;
    due = refl;
    number = number;
    end = e;
    spelled = refl;
  }
  found number draft ((b ∷ bs) ∷ []) s e = absurd (ok_err (sym e ∙ reader.unended number draft b bs))
  found number draft (text ∷ next ∷ pieces) s e =
      one (read_line text) refl (λ d rest. found (suc number) d (next ∷ pieces) s rest)
    where
      more : List ℕ
      more = join_with_byte 10 (next ∷ pieces)

      refused : option_and_then (drafted_line draft) (read_line text) ≡ None → ⊥
      refused none = ok_err (sym e ∙ reader.stops number draft text (next ∷ pieces) refl none)

      behind_one : (line : L) → read_line text ≡ Some line → (o : Option D) → drafted_line draft line ≡ o
          → ((d : D) → read (suc number) d (next ∷ pieces) ≡ Ok s → Found d more s)
          → Found draft (text ++ 10 ∷ more) s
      behind_one line at None due again = absurd (refused (ap (option_and_then (drafted_line draft)) at ∙ due))
      behind_one line at (Some d) due again =
          let spelled = reader.line_found text line at in
          let rest = again d (sym (reader.goes_on number draft text (next ∷ pieces) d refl (ap (option_and_then (drafted_line draft)) at ∙ due)) ∙ e) in
          let joined : text ++ 10 ∷ more ≡ ended (line_text line) ++ lines_text line_text rest.lines =
          ap (λ (t : List ℕ). t ++ 10 ∷ more) spelled.0
          ∙ ap (λ (t : List ℕ). line_text line ++ 10 ∷ t) rest.spelled
          ∙ sym (append_assoc (line_text line) (10 ∷ []) (lines_text line_text rest.lines)) in
          record {
            lines = line ∷ rest.lines;
            right = (spelled.1, rest.right);
            next = rest.next;
            due = ap (option_and_then (λ d. drafted_lines drafted_line d rest.lines)) due ∙ rest.due;
            number = rest.number;
            end = rest.end;
            spelled = joined;
          }

      one : (o : Option L) → read_line text ≡ o
          → ((d : D) → read (suc number) d (next ∷ pieces) ≡ Ok s → Found d more s)
          → Found draft (text ++ 10 ∷ more) s
      one None at again = absurd (refused (ap (option_and_then (drafted_line draft)) at))
      one (Some line) at again = behind_one line at (drafted_line draft line) refl again
