-- Exactly the messages of a stream are taken.
use Rattle.std.proofs.Common.{◌≡◌, ◌≢◌, ℕ, zero, suc, ◌+◌, ◌-◌, ◌≤◌, ◌<◌, Bool, true, false, cond, List, [], ◌∷◌, ◌++◌, length, take, drop, Option, Some, None, refl, ap, sym, ◌∙◌, arith, inl, inr}
use Rattle.std.specs.Prelude.{◌==◌, ◌&&◌, nat_lt}
use Rattle.std.specs.List.{AllByRecursion, flat_map}
use Rattle.std.proofs.lemmas.Bool.Decides.{leb_tells}
use Rattle.std.proofs.lemmas.List.{append_assoc, append-nil, length-append, length-take-le, take-append-drop}
use Rattle.std.proofs.Math.Seq.{take-append-add}
use Rattle.sip_lex.specs.Cut.{cut, is}
use Rattle.sip_lex.specs.Line.{IsLine, ended, line_at, line_at_cut, line_in, with_rest}
use Rattle.sip_text.specs.Grammar.{IsFull}
use Rattle.sip_lex.proofs.laws.Lines.{line_at-again, line_at-takes}
use Rattle.sip_framing.specs.declared.length.Heard.{Heard}
use Rattle.sip_framing.specs.declared.length.SaidLength.{SaidLength}
use Rattle.sip_framing.specs.declared.length.SaidLength.TheVariants.{Unsaid, Bytes, Wrong}
use Rattle.sip_framing.specs.declared.head.FramedHead.{FramedHead}
use Rattle.sip_framing.specs.declared.head.FramedHead.TheVariants as head
use Rattle.sip_framing.specs.declared.frame.Frame.TheVariants.{More, Whole, TooLong}
use Rattle.sip_framing.specs.Length.{heard_after, unheard}
use Rattle.sip_framing.specs.Head.{head_in}
use Rattle.sip_framing.specs.Frame.{body_frame, crlf_frame, frame_of, front_of, head_frame, message_frame}
use Rattle.sip_framing.specs.Message.{IsFramed, heard_all}
use Rattle.sip_framing.proofs.Heads.{by_cut, by_line, next_line}
use Rattle.sip_framing.proofs.Frames.{front_all, front_short}

-- ---- the head by its first line

abbrev found : {A : Type 0} → A → Option A
found x = Some x

some_is : {A : Type 0} (x y : A) → found x ≡ found y → x ≡ y
some_is x y e = cc

by_rest : (heard : Heard) (after line rest : List ℕ) (o : Option (List ℕ)) → with_rest o after ≡ Some (line, rest) → by_line heard after o ≡ by_line heard rest (Some line)
by_rest heard after line rest None e = absurd cc
by_rest heard after line rest (Some l) e =
    let pair = some_is (l, after) (line, rest) e in
    ap (λ (x : List ℕ). by_line heard after (Some x)) (ap (λ (p : List ℕ × List ℕ). p.0) pair) ∙ ap (λ (x : List ℕ). by_line heard x (Some line)) (ap (λ (p : List ℕ × List ℕ). p.1) pair)

by_line_cut : (heard : Heard) (line rest : List ℕ) (c : List ℕ × Option (List ℕ)) → line_at_cut c ≡ Some (line, rest) → by_cut [] heard c ≡ by_line heard rest (Some line)
by_line_cut heard line rest (piece, None) e = absurd cc
by_line_cut heard line rest (piece, Some after) e = by_rest heard after line rest (line_in piece) e

by_line_at : (heard : Heard) (text line rest : List ℕ) → line_at text ≡ Some (line, rest) → head_in [] heard text ≡ by_line heard rest (Some line)
by_line_at heard text line rest e = next_line [] heard text ∙ by_line_cut heard line rest (cut (is 10) text) e

not_ended : (heard : Heard) (said : SaidLength) (r : ℕ) (c : List ℕ × Option (List ℕ)) → line_at_cut c ≡ None → by_cut [] heard c ≢ head.Ended said r
not_ended heard said r (piece, None) e same = absurd cc
not_ended heard said r (piece, Some after) e same = go (line_in piece) e same
  where
    go : (o : Option (List ℕ)) → with_rest o after ≡ None → by_line heard after o ≡ head.Ended said r → ⊥
    go None e same = absurd cc
    go (Some l) e same = absurd cc

-- ---- each message is taken

empty_is_line : IsLine []
empty_is_line = record { no_cr = tt; no_lf = tt }

full_goes_on : (heard : Heard) (rest line : List ℕ) → line ≢ [] → by_line heard rest (Some line) ≡ head_in [] (heard_after heard line) rest
full_goes_on heard rest [] full = absurd (full refl)
full_goes_on heard rest (b ∷ bs) full = refl

head_again : (lines : List (List ℕ)) (heard : Heard) (rest : List ℕ) → AllByRecursion IsFull lines → head_in [] heard (flat_map ended lines ++ (ended [] ++ rest)) ≡ head.Ended (heard_all heard lines).said (length rest)
head_again [] heard rest full = by_line_at heard (ended [] ++ rest) [] rest (line_at-again [] rest empty_is_line)
head_again (l ∷ ls) heard rest full =
    let more = flat_map ended ls ++ (ended [] ++ rest) in
    ap (λ (x : List ℕ). head_in [] heard x) (append_assoc (ended l) (flat_map ended ls) (ended [] ++ rest))
    ∙ by_line_at heard (ended l ++ more) l more (line_at-again l more full.0.0)
    ∙ full_goes_on heard more l full.0.1
    ∙ head_again ls (heard_after heard l) rest full.1

-- a first byte that is no CR
plain : (most b : ℕ) (more : List ℕ) → (b == 13) ≡ false → frame_of most (b ∷ more) ≡ message_frame most (b ∷ more)
plain most b [] e = refl
plain most b (c ∷ cs) e = ap (λ t. cond (t && c == 10) (crlf_frame cs) (message_frame most (b ∷ c ∷ cs))) e

not_cr : (b : ℕ) → b ≢ 13 → (b == 13) ≡ false
not_cr b h = grind (arith, h)

begins : (most : ℕ) (line more : List ℕ) → IsFull line → frame_of most (ended line ++ more) ≡ message_frame most (ended line ++ more)
begins most [] more full = absurd (full.1 refl)
begins most (b ∷ bs) more full = plain most b ((bs ++ 13 ∷ 10 ∷ []) ++ more) (not_cr b full.0.no_cr.0)

-- a head of these bytes, and what stands behind it
taken_as : (most h n x : ℕ) (said : SaidLength) → said ≡ Bytes n → h + n ≤ most → (all : ℕ) → h + n ≤ all → head_frame most (h + x) all (head.Ended said x) ≡ Whole (h + n)
taken_as most h n x said is within all there =
    let front : (h + x) - x ≡ h = omega arith in
    ap (λ k. body_frame most k (all - k) said) front ∙ ap (λ s. body_frame most h (all - h) s) is ∙ body
  where
    body : body_frame most h (all - h) (Bytes n) ≡ Whole (h + n)
    body = grind (arith, within, there)

message_only : (most : ℕ) (lines : List (List ℕ)) (body rest : List ℕ) → AllByRecursion IsFull lines → (heard_all unheard lines).said ≡ Bytes (length body)
    → length (flat_map ended lines ++ ended []) + length body ≤ most
    → message_frame most ((flat_map ended lines ++ ended []) ++ (body ++ rest)) ≡ Whole (length (flat_map ended lines ++ ended []) + length body)
message_only most lines body rest full said within =
    let a = flat_map ended lines ++ ended [] in
    let x = front_of (most - length a) (body ++ rest) in
    let front = front_short most a (body ++ rest) (omega (arith, within)) ∙ ap (λ (f : List ℕ). f ++ x) (front_all most a (omega (arith, within))) in
    let found = ap (λ (f : List ℕ). head_in [] unheard f) (front ∙ append_assoc (flat_map ended lines) (ended []) x) ∙ head_again lines unheard x full in
    let size = ap (length {A = ℕ}) front ∙ length-append a x in
    let all = length-append a (body ++ rest) in
    let more = length-append body rest in
    ap (λ n. head_frame most n (length (a ++ (body ++ rest))) (head_in [] unheard (front_of most (a ++ (body ++ rest))))) size
    ∙ ap (λ h. head_frame most (length a + length x) (length (a ++ (body ++ rest))) h) found
    ∙ taken_as most (length a) (length body) (length x) (heard_all unheard lines).said said within (length (a ++ (body ++ rest))) (omega (arith, all, more))

pub frame_only : (most : ℕ) (text message rest : List ℕ) → IsFramed message → length message ≤ most → text ≡ message ++ rest → frame_of most text ≡ Whole (length message)
frame_only most text message rest m within e =
    let ls = m.line ∷ m.lines in
    let a = flat_map ended ls ++ ended [] in
    let whole : message ≡ a ++ m.body = m.whole ∙ sym (append_assoc (flat_map ended ls) (ended []) m.body) in
    let size : length message ≡ length a + length m.body = ap (length {A = ℕ}) whole ∙ length-append a m.body in
    let all : text ≡ a ++ (m.body ++ rest) = e ∙ ap (λ (x : List ℕ). x ++ rest) whole ∙ append_assoc a m.body rest in
    let front : text ≡ ended m.line ++ ((flat_map ended m.lines ++ ended []) ++ (m.body ++ rest)) =
    all ∙ ap (λ (x : List ℕ). x ++ (m.body ++ rest)) (append_assoc (ended m.line) (flat_map ended m.lines) (ended [])) ∙ append_assoc (ended m.line) (flat_map ended m.lines ++ ended []) (m.body ++ rest) in
    ap (frame_of most) front
    ∙ begins most m.line ((flat_map ended m.lines ++ ended []) ++ (m.body ++ rest)) m.are_full.0
    ∙ ap (message_frame most) (sym front ∙ all)
    ∙ message_only most ls m.body rest m.are_full m.said (omega (arith, size, within))
    ∙ ap (λ n. Whole n) (sym size)

-- ---- what is taken is one

record FoundHead (heard : Heard) (text : List ℕ) (said : SaidLength) (r : ℕ) : Type 0 where
  lines : List (List ℕ)
  rest : List ℕ
  full : AllByRecursion IsFull lines
  whole : text ≡ flat_map ended lines ++ (ended [] ++ rest)
  size : length rest ≡ r
  heard_is : (heard_all heard lines).said ≡ said

ended_is : (a b : SaidLength) (n m : ℕ) → head.Ended a n ≡ head.Ended b m → (a ≡ b) × (n ≡ m)
ended_is a b n m e = (cc, cc)

behind_line : (line rest : List ℕ) (text : List ℕ) → text ≡ ended line ++ rest → 2 + length rest ≤ length text
behind_line line rest text e =
    let n = ap (length {A = ℕ}) e ∙ length-append (ended line) rest in
    let m = length-append line (13 ∷ 10 ∷ []) in
    omega (arith, n, m)

head_step : (heard : Heard) (text line rest : List ℕ) (said : SaidLength) (r : ℕ) → IsLine line → text ≡ ended line ++ rest → by_line heard rest (Some line) ≡ head.Ended said r
    → (head_in [] (heard_after heard line) rest ≡ head.Ended said r → FoundHead (heard_after heard line) rest said r) → FoundHead heard text said r
head_step heard text [] rest said r is_line whole e later = record { lines = []; rest = rest; full = tt; whole = whole; size = (ended_is heard.said said (length rest) r e).1; heard_is = (ended_is heard.said said (length rest) r e).0 }
head_step heard text (b ∷ bs) rest said r is_line whole e later =
    let h = later e in
    record {
      lines = (b ∷ bs) ∷ h.lines;
      rest = h.rest;
      full = ((is_line, λ none. absurd cc), h.full);
      whole = whole ∙ ap (λ (x : List ℕ). ended (b ∷ bs) ++ x) h.whole ∙ sym (append_assoc (ended (b ∷ bs)) (flat_map ended h.lines) (ended [] ++ h.rest));
      size = h.size;
      heard_is = h.heard_is;
    }

head_at : (heard : Heard) (text : List ℕ) (said : SaidLength) (r : ℕ) → head_in [] heard text ≡ head.Ended said r
    → ((line rest : List ℕ) → 2 + length rest ≤ length text → head_in [] (heard_after heard line) rest ≡ head.Ended said r → FoundHead (heard_after heard line) rest said r)
    → (o : Option (List ℕ × List ℕ)) → line_at text ≡ o → FoundHead heard text said r
head_at heard text said r e later None none = absurd (not_ended heard said r (cut (is 10) text) none (sym (next_line [] heard text) ∙ e))
head_at heard text said r e later (Some (line, rest)) some =
    let takes = line_at-takes text line rest some in
    head_step heard text line rest said r takes.is_line takes.whole (sym (by_line_at heard text line rest some) ∙ e) (later line rest (behind_line line rest text takes.whole))

head_found : (fuel : ℕ) (heard : Heard) (text : List ℕ) (said : SaidLength) (r : ℕ) → length text ≤ fuel → head_in [] heard text ≡ head.Ended said r → FoundHead heard text said r
head_found zero heard text said r within e = head_at heard text said r e (λ line rest shorter. absurd (omega (arith, within, shorter))) (line_at text) refl
head_found (suc fuel) heard text said r within e =
    head_at heard text said r e (λ line rest shorter h. head_found fuel (heard_after heard line) rest said r (omega (arith, within, shorter)) h) (line_at text) refl

front_is : (most : ℕ) (text : List ℕ) → (z : List ℕ) × (text ≡ front_of most text ++ z)
front_is most text =
    elim (leb_tells (length text) most) [
      | inl short ↦ ([], sym (append-nil text) ∙ ap (λ (f : List ℕ). f ++ []) (sym (front_all most text short.1)))
      | inr long ↦ (drop most text, sym (take-append-drop most text) ∙ ap (λ (f : List ℕ). f ++ drop most text) (sym (front_cut most text long.1)))
    ]
  where
    front_cut : (m : ℕ) (t : List ℕ) → m < length t → front_of m t ≡ take m t
    front_cut m t h = grind arith

body_found : (most front rest n : ℕ) (said : SaidLength) → body_frame most front rest said ≡ Whole n → (k : ℕ) × (said ≡ Bytes k) × (n ≡ front + k) × (k ≤ rest)
body_found most front rest n Unsaid e = absurd cc
body_found most front rest n Wrong e = absurd cc
body_found most front rest n (Bytes k) e = (k, refl, grind arith, grind arith)

-- the lines are not none, where no line end stands first
framed_lines : (lines : List (List ℕ)) (body text : List ℕ) → text ≡ flat_map ended lines ++ (ended [] ++ body) → AllByRecursion IsFull lines → (heard_all unheard lines).said ≡ Bytes (length body) → lines ≢ [] → IsFramed text
framed_lines [] body text whole full said some = absurd (some refl)
framed_lines (l ∷ ls) body text whole full said some = record { line = l; lines = ls; body = body; whole = whole; are_full = full; said = said }

-- no line end stands first
abbrev pub Plain : List ℕ → Type 0
Plain text = (rest : List ℕ) → text ≢ 13 ∷ (10 ∷ rest)

head_framed : (most n : ℕ) (text : List ℕ) (said : SaidLength) (r : ℕ) → Plain text → FoundHead unheard (front_of most text) said r → body_frame most (length (front_of most text) - r) (length text - (length (front_of most text) - r)) said ≡ Whole n → IsFramed (take n text)
head_framed most n text said r no_crlf h e =
    let a = flat_map ended h.lines ++ ended [] in
    let behind = front_is most text in
    let front : front_of most text ≡ a ++ h.rest = h.whole ∙ sym (append_assoc (flat_map ended h.lines) (ended []) h.rest) in
    let text_is : text ≡ a ++ (h.rest ++ behind.0) = behind.1 ∙ ap (λ (f : List ℕ). f ++ behind.0) front ∙ append_assoc a h.rest behind.0 in
    let size = ap (length {A = ℕ}) front ∙ length-append a h.rest in
    let same : length (front_of most text) - r ≡ length a = omega (arith, size, h.size) in
    let b = body_found most (length (front_of most text) - r) (length text - (length (front_of most text) - r)) n said e in
    let k = b.0 in
    let y = h.rest ++ behind.0 in
    let all = ap (length {A = ℕ}) text_is ∙ length-append a y in
    let n_is : n ≡ length a + k = b.2 ∙ ap (λ m. m + k) same in
    let fits : k ≤ length y = omega (arith, b.3, same, all) in
    let cut_is : take n text ≡ a ++ take k y = ap (λ m. take m text) n_is ∙ ap (λ (t : List ℕ). take (length a + k) t) text_is ∙ take-append-add a y k in
    let len : length (take k y) ≡ k = length-take-le k y fits in
    framed_lines h.lines (take k y) (take n text) (cut_is ∙ append_assoc (flat_map ended h.lines) (ended []) (take k y)) h.full (h.heard_is ∙ b.1 ∙ ap (λ m. Bytes m) (sym len)) (λ none. no_crlf y (text_is ∙ ap (λ (ls : List (List ℕ)). (flat_map ended ls ++ ended []) ++ y) none))

message_found : (most n : ℕ) (text : List ℕ) → Plain text → message_frame most text ≡ Whole n → IsFramed (take n text)
message_found most n text no_crlf e = go (head_in [] unheard (front_of most text)) refl e
  where
    open_not : (m l : ℕ) → cond (nat_lt m l) TooLong More ≢ Whole n
    open_not m l same = grind arith

    go : (h : FramedHead) → head_in [] unheard (front_of most text) ≡ h → head_frame most (length (front_of most text)) (length text) h ≡ Whole n → IsFramed (take n text)
    go head.Open is e = absurd (open_not most (length text) e)
    go head.Broken is e = absurd cc
    go (head.Ended said r) is e = head_framed most n text said r no_crlf (head_found (length (front_of most text)) unheard (front_of most text) said r (omega arith) is) e

crlf_not : (rest : List ℕ) (n : ℕ) → crlf_frame rest ≢ Whole n
crlf_not [] n e = absurd cc
crlf_not (b ∷ []) n e = grind arith
crlf_not (b ∷ c ∷ rest) n e = grind arith

pub frame_found : (most n : ℕ) (text : List ℕ) → frame_of most text ≡ Whole n → IsFramed (take n text)
frame_found most n [] e = message_found most n [] (λ rest same. absurd cc) e
frame_found most n (b ∷ []) e = message_found most n (b ∷ []) (λ rest same. absurd cc) e
frame_found most n (b ∷ c ∷ more) e = go (b == 13 && c == 10) refl e
  where
    not_crlf : (b == 13 && c == 10) ≡ false → Plain (b ∷ c ∷ more)
    not_crlf f rest same = grind arith

    go : (t : Bool) → (b == 13 && c == 10) ≡ t → cond t (crlf_frame more) (message_frame most (b ∷ c ∷ more)) ≡ Whole n → IsFramed (take n (b ∷ c ∷ more))
    go true is e = absurd (crlf_not more n e)
    go false is e = message_found most n (b ∷ c ∷ more) (not_crlf is) e
