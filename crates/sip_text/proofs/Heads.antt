-- What was read where reading answered.
use Rattle.sip_text.proofs.Common.{◌≡◌, ◌∙◌, ℕ, true, cond, List, Option, Some, None, Result, Ok, Err, ap, sym, cond-true, line_at, pieces, MandatoryHeader, cseq_fits, missing, said_length, after_headers, after_line, after_start, if_present, or_bad, BadCSeq}
use Rattle.sip_text.proofs.Common.{Fault, Headers, headers_at, skip_line_ends, start_of, HeaderText, StartText, arith}
use Rattle.sip_text.specs.Message.{body_at, checked, read_at}
use Rattle.sip_text.proofs.Joins.{join_pieces}
use Rattle.sip_text.proofs.Common.{◌-◌, ◌+◌, ◌≤◌, ◌++◌, [], ◌∷◌, append_assoc, cond-false, ended, false, join_with_byte, length, length-append, start_in, subst, take, BodyLength, Gives, MessageText}
use Rattle.sip_text.specs.declared.fault.ReadFault.{ReadFault}
use Rattle.sip_text.specs.declared.place.StartPlaces.{StartPlaces}
use Rattle.sip_text.specs.declared.place.StartPlaces.TheVariants.{Request, Response}
use Rattle.sip_text.specs.inner.Kept.{IsAt, IsStartWithin, start_moved}
use Rattle.sip_lex.specs.Places.{IsEnd, IsWithin}
use Rattle.sip_text.proofs.Ends.{at_end, end_length, moved_part, take_whole}
use Rattle.sip_text.proofs.Common.{Bool, IsLine, Lacks, headers_in, part_at}
use Rattle.sip_text.proofs.laws.Good.{headers_good}
use Rattle.sip_text.proofs.Spelled.{line_is}
use Rattle.sip_text.proofs.StartLines.{start_found, start_line_good}
use Rattle.sip_text.specs.declared.needed.MandatoryHeader.TheVariants.{CSeq}
use Rattle.sip_text.specs.declared.place.LinePlaces.{LinePlaces}
use Rattle.sip_lex.specs.declared.place.PartPlace.{PartPlace}
use Rattle.sip_text.specs.Fields.{cseq_in, fits_start, value_of}
use Rattle.sip_text.specs.Message.{IsHead}
use Rattle.sip_text.proofs.HeaderPlaces.{part_kept}

abbrev there : Headers → Option Headers
there x = Some x

pub some_headers : (o : Option Headers) (x : Headers) → or_bad o ≡ Ok x → o ≡ Some x
some_headers o x e = grind arith

pub checked_is : (s : StartText) (hs : List HeaderText) (rest : List ℕ) → missing hs ≡ None → cseq_fits s hs ≡ true → checked s hs rest ≡ body_at s hs rest (said_length hs)
unfolding checked
checked_is s hs rest needed fits = ap (λ (x : Option MandatoryHeader). if_present x (cond (cseq_fits s hs) (body_at s hs rest (said_length hs)) (Err BadCSeq))) needed ∙ cond-true _ _ _ fits

pub all_read : (text line rest behind : List ℕ) (s : StartText) (hs : List HeaderText) → Some (line, rest) ≡ line_at (skip_line_ends text) → start_of line ≡ Ok s → or_bad (headers_at rest) ≡ Ok (hs, pieces 10 behind) → missing hs ≡ None → cseq_fits s hs ≡ true → read_at text ≡ body_at s hs behind (said_length hs)
unfolding read_at
all_read text line rest behind s hs at start headers needed fits =
    ap after_line (sym at)
    ∙ ap (λ (x : Result StartText Fault). after_start x rest) start
    ∙ ap (after_headers s) (some_headers (headers_at rest) (hs, pieces 10 behind) headers)
    ∙ ap (checked s hs) (join_pieces behind)
    ∙ checked_is s hs behind needed fits

checked_wrong : (s : StartText) (hs : List HeaderText) (rest : List ℕ) → missing hs ≡ None → cseq_fits s hs ≡ false → checked s hs rest ≡ Err BadCSeq
unfolding checked
checked_wrong s hs rest needed fits = ap (λ (x : Option MandatoryHeader). if_present x (cond (cseq_fits s hs) (body_at s hs rest (said_length hs)) (Err BadCSeq))) needed ∙ cond-false _ _ _ fits

pub wrong_read : (text line rest behind : List ℕ) (s : StartText) (hs : List HeaderText) → Some (line, rest) ≡ line_at (skip_line_ends text) → start_of line ≡ Ok s → or_bad (headers_at rest) ≡ Ok (hs, pieces 10 behind) → missing hs ≡ None → cseq_fits s hs ≡ false → read_at text ≡ Err BadCSeq
unfolding read_at
wrong_read text line rest behind s hs at start headers needed fits =
    ap after_line (sym at)
    ∙ ap (λ (x : Result StartText Fault). after_start x rest) start
    ∙ ap (after_headers s) (some_headers (headers_at rest) (hs, pieces 10 behind) headers)
    ∙ checked_wrong s hs (join_with_byte 10 (pieces 10 behind)) needed fits

-- ---- the start line by its places

pub start_moves : (text line : List ℕ) (at : ℕ) (start : StartPlaces) → IsAt text at line → IsStartWithin (length line) start → start_in text (start_moved at start) ≡ start_in line start
start_moves text line at (Request method uri) is within = grind (arith, moved_part)
start_moves text line at (Response status reason) is within = grind (arith, moved_part)

moved_within : (text line : List ℕ) (at : ℕ) (start : StartPlaces) → at + length line ≤ length text → IsStartWithin (length line) start → IsStartWithin (length text) (start_moved at start)
moved_within text line at (Request method uri) room within = (omega arith, omega arith)
moved_within text line at (Response status reason) room within = omega arith

start_still : (text kept : List ℕ) (start : StartPlaces) → take (length text) kept ≡ text → IsStartWithin (length text) start → start_in kept start ≡ start_in text start
start_still text kept (Request method uri) begins within = grind (arith, part_kept)
start_still text kept (Response status reason) begins within = grind (arith, part_kept)

-- what the code knows of the first line: it stands in the text where what was skipped ends
pub record FirstAt (text begin line rest : List ℕ) : Type 0 where
  pub end : IsEnd text begin
  pub whole : begin ≡ ended line ++ rest

pub first_room : (text begin line rest : List ℕ) → FirstAt text begin line rest → (length text - length begin) + length line ≤ length text
first_room text begin line rest f =
    let size = end_length text begin f.end in
    omega (arith, ap length f.whole, length-append (ended line) rest, length-append line (13 ∷ 10 ∷ []))

pub start_kept : (text begin line rest kept : List ℕ) (start : StartPlaces) → FirstAt text begin line rest → take (length text) kept ≡ text → IsStartWithin (length line) start → start_in kept (start_moved (length text - length begin) start) ≡ start_in line start
start_kept text begin line rest kept start f begins within =
    let at = length text - length begin in
    let is = at_end text begin line ((13 ∷ 10 ∷ []) ++ rest) (f.whole ∙ append_assoc line (13 ∷ 10 ∷ []) rest) f.end in
    start_still text kept (start_moved at start) begins (moved_within text line at start (first_room text begin line rest f) within) ∙ start_moves text line at start is within

pub gives_read : {A : Type 0} (text rest behind : List ℕ) (s t : StartText) (hs : List HeaderText) (said : BodyLength) (r : Result MessageText (ReadFault A)) → Gives (λ m. m) r (body_at t hs rest said) → t ≡ s → rest ≡ behind → read_at text ≡ body_at s hs behind said → Gives (λ m. m) r (read_at text)
gives_read text rest behind s t hs said r g same end is =
    subst (λ (x : Result MessageText Fault). Gives (λ m. m) r x) (ap (λ (u : StartText). body_at u hs rest said) same ∙ ap (λ (xs : List ℕ). body_at s hs xs said) end ∙ sym is) g

-- ---- all but the body is read

pub record HeadRead (text begin line rest behind kept : List ℕ) (places : StartPlaces) (lines : List LinePlaces) : Type 0 where
  pub first : FirstAt text begin line rest
  pub is_line : IsLine line
  pub at : Some (line, rest) ≡ line_at (skip_line_ends text)
  pub start : start_of line ≡ Ok (start_in line places)
  pub within : IsStartWithin (length line) places
  pub begins : take (length text) kept ≡ text
  pub headers : or_bad (headers_at rest) ≡ Ok (headers_in kept lines, pieces 10 behind)

module _ (text begin line rest behind kept : List ℕ) (places : StartPlaces) (lines : List LinePlaces) (read : HeadRead text begin line rest behind kept places lines) where
  abbrev start_text : StartText
  start_text = start_in line places

  abbrev headers : List HeaderText
  headers = headers_in kept lines

  pub start_is : (start : StartPlaces) → start ≡ start_moved (length text - length begin) places → start_in kept start ≡ start_in line places
  start_is start e = ap (start_in kept) e ∙ start_kept text begin line rest kept places read.first read.begins read.within

  lacks_checked : (name : MandatoryHeader) (all : List ℕ) → missing headers ≡ Some name → checked start_text headers all ≡ Err (Lacks name)
  unfolding checked
  lacks_checked name all e = ap (λ (x : Option MandatoryHeader). if_present x (cond (cseq_fits start_text headers) (body_at start_text headers all (said_length headers)) (Err BadCSeq))) e

  pub lacks_read : (name : MandatoryHeader) → Some name ≡ missing (headers_in kept lines) → read_at text ≡ Err (Lacks name)
  unfolding read_at
  lacks_read name e =
      ap after_line (sym read.at)
      ∙ ap (λ (x : Result StartText Fault). after_start x rest) read.start
      ∙ ap (after_headers start_text) (some_headers (headers_at rest) (headers, pieces 10 behind) read.headers)
      ∙ lacks_checked name (join_with_byte 10 (pieces 10 behind)) (sym e)

  pub cseq_is : (t : StartText) (o : Option (List ℕ)) (b : Bool) → b ≡ fits_start t (cseq_in o) → t ≡ start_in line places → o ≡ value_of CSeq (headers_in kept lines) → cseq_fits (start_in line places) (headers_in kept lines) ≡ b
  cseq_is t o b e same value = sym (e ∙ ap (λ (u : StartText). fits_start u (cseq_in o)) same ∙ ap (λ (v : Option (List ℕ)). fits_start start_text (cseq_in v)) value)

  pub cseq_wrong : None ≡ missing (headers_in kept lines) → cseq_fits (start_in line places) (headers_in kept lines) ≡ false → read_at text ≡ Err BadCSeq
  cseq_wrong needed fits = wrong_read text line rest behind start_text headers read.at read.start read.headers (sym needed) fits

  pub head_good : (start : StartPlaces) → start ≡ start_moved (length text - length begin) places → None ≡ missing (headers_in kept lines) → cseq_fits (start_in line places) (headers_in kept lines) ≡ true → IsHead (start_in kept start) (headers_in kept lines)
  head_good start e needed fits =
      subst (λ (t : StartText). IsHead t headers) (sym (start_is start e))
      (record {
        start = start_line_good line start_text (start_found line start_text read.start) (line_is line read.is_line);
        headers = headers_good rest (headers, pieces 10 behind) (some_headers (headers_at rest) (headers, pieces 10 behind) read.headers);
        needed = sym needed;
        cseq = fits;
      })

  pub body_read : {A : Type 0} (start : StartPlaces) (end : PartPlace) (said : BodyLength) (r : Result MessageText (ReadFault A)) → start ≡ start_moved (length text - length begin) places → None ≡ missing (headers_in kept lines) → cseq_fits (start_in line places) (headers_in kept lines) ≡ true → IsWithin (length text) end → part_at text end ≡ take (length behind) behind → said ≡ said_length (headers_in kept lines) → Gives (λ m. m) r (body_at (start_in kept start) (headers_in kept lines) (part_at kept end) said) → Gives (λ m. m) r (read_at text)
  body_read start end said r e needed fits within part length_is g =
      let there = all_read text line rest behind start_text headers read.at read.start read.headers (sym needed) fits in
      let same : read_at text ≡ body_at start_text headers behind said = there ∙ ap (body_at start_text headers behind) (sym length_is) in
      gives_read text (part_at kept end) behind start_text (start_in kept start) headers said r g (start_is start e) (part_kept text kept end read.begins within ∙ part ∙ take_whole behind) same
