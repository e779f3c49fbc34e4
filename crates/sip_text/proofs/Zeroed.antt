-- A message whose Content-Length is set to zero.
use Rattle.sip_text.proofs.Common.{◌≡◌, ℕ, zero, suc, ◌+◌, ◌<◌, ◌++◌, drop, get_or, header_in, headers_in, length-append, start_in, true, false, cond, List, [], ◌∷◌, map, length, Option, Some, None, refl, sym, ap, subst, ◌∙◌, take, arith, list_all, bytes_eq, str_to_ascii_lowercase, and_parts}
use Rattle.sip_text.proofs.Common.{cond-true, bytes_eq-Decides, BodyLength, Bytes, Wrong, MandatoryHeader, cseq_fits, missing, said_length, says, IsMessage, fits_body, head_of}
use Rattle.sip_text.proofs.Common.{is_header, zeroed, same_name, HeaderText, StartText, common_steps, rules}
use Rattle.std.specs.Prelude.{is_none}
use Rattle.sip_text.specs.declared.needed.MandatoryHeader.TheVariants.{Via, From, To, CallId, CSeq}
use Rattle.sip_text.specs.Fields.{cseq_in, fits_start, length_name, needed_name, said_by}
use Rattle.sip_text.specs.Message.{IsHead}
use Rattle.sip_text.specs.Name.{first_of, full_name, values_of}
use Rattle.sip_text.proofs.laws.Good.{and_both}
use Rattle.std.proofs.Common.{slice_set}
use Rattle.std.proofs.lemmas.List.{append-nil}
use Rattle.std.proofs.Math.Seq.{take-length}
use Rattle.sip_text.specs.declared.place.LinePlaces.{LinePlaces}
use Rattle.sip_text.specs.declared.place.StartPlaces.{StartPlaces}
use Rattle.sip_text.specs.inner.Kept.{AreLinesWithin, IsKept, IsStartWithin, placed_message}
use Rattle.sip_text.proofs.Places.{lines_alike, part_grown, start_grown, start_room}

zeroed_good : (h : HeaderText) → is_header h ≡ true → is_header (zeroed h) ≡ true
zeroed_good h good = grind arith

all_good : (hs : List HeaderText) → list_all is_header hs ≡ true → list_all is_header (map zeroed hs) ≡ true
all_good [] h = refl
all_good (x ∷ hs) h = let both = and_parts (is_header x) (list_all is_header hs) h in and_both (is_header (zeroed x)) (list_all is_header (map zeroed hs)) (zeroed_good x both.0) (all_good hs both.1)

-- ---- the values of other names stay

abbrev step : List ℕ → HeaderText → List (List ℕ) → List (List ℕ)
step name h later = cond (same_name name h.name) (h.value ∷ later) later

values_other : (name : List ℕ) (hs : List HeaderText) → ((n : List ℕ) → same_name name n ≡ true → same_name length_name n ≡ false) → values_of name (map zeroed hs) ≡ values_of name hs
unfolding values_of
values_other name [] apart = refl
values_other name (h ∷ hs) apart = grind (arith, values_other name hs apart)

-- and each length is zero
abbrev zeros : List (List ℕ) → List (List ℕ)
zeros vs = map (λ (v : List ℕ). 48 ∷ []) vs

values_zero : (hs : List HeaderText) → values_of length_name (map zeroed hs) ≡ zeros (values_of length_name hs)
unfolding values_of
values_zero [] = refl
values_zero (h ∷ hs) = grind (arith, values_zero hs)

say_zero : (vs : List (List ℕ)) → list_all (says 0) (zeros vs) ≡ true
say_zero [] = refl
say_zero (v ∷ vs) = say_zero vs

said_zero : (vs : List (List ℕ)) → fits_body (said_by (zeros vs)) 0 ≡ true
said_zero [] = refl
said_zero (v ∷ vs) = ap (λ (b : BodyLength). fits_body b 0) (cond-true (list_all (says 0) (zeros vs)) (Bytes 0) Wrong (say_zero vs))

pub empty_fits : (hs : List HeaderText) → fits_body (said_length (map zeroed hs)) 0 ≡ true
empty_fits hs = ap (λ (vs : List (List ℕ)). fits_body (said_by vs) 0) (values_zero hs) ∙ said_zero (values_of length_name hs)

-- ---- no needed field is a length

abbrev lowered_name : List ℕ → List ℕ
lowered_name name = str_to_ascii_lowercase (full_name name)

differ : (which : MandatoryHeader) → bytes_eq (lowered_name (needed_name which)) (lowered_name length_name) ≡ false
unfolding full_name
differ which = grind arith

apart_from : (which : MandatoryHeader) (n : List ℕ) → same_name (needed_name which) n ≡ true → same_name length_name n ≡ false
apart_from which n same = grind (arith, bytes_eq-Decides, differ)

needed_values : (which : MandatoryHeader) (hs : List HeaderText) → values_of (needed_name which) (map zeroed hs) ≡ values_of (needed_name which) hs
needed_values which hs = values_other (needed_name which) hs (apart_from which)

abbrev missing_by : List (List ℕ) → List (List ℕ) → List (List ℕ) → List (List ℕ) → List (List ℕ) → Option MandatoryHeader
missing_by via from to call cseq =
    cond (is_none (first_of via)) (Some Via)
    (cond (is_none (first_of from)) (Some From)
    (cond (is_none (first_of to)) (Some To)
    (cond (is_none (first_of call)) (Some CallId)
    (cond (is_none (first_of cseq)) (Some CSeq) None))))

same_missing : (hs : List HeaderText) → missing (map zeroed hs) ≡ missing hs
same_missing hs = search (rules, needed_values)

same_cseq : (start : StartText) (hs : List HeaderText) → cseq_fits start (map zeroed hs) ≡ cseq_fits start hs
same_cseq start hs = ap (λ (v : List (List ℕ)). fits_start start (cseq_in (first_of v))) (needed_values CSeq hs)

pub zeroed_head : (start : StartText) (hs : List HeaderText) → IsHead start hs → IsHead start (map zeroed hs)
zeroed_head start hs h = grind (arith, all_good, same_missing, same_cseq)

-- ---- what a message has

pub without_body_good : (start : StartText) (hs zs : List HeaderText) (body : List ℕ) → zs ≡ map zeroed hs → body ≡ [] → IsHead start hs → IsMessage (record { start = start; headers = zs; body = body })
without_body_good start hs zs body z b h =
    let good : IsMessage (head_of start hs) = record { head = zeroed_head start hs h; body = empty_fits hs } in
    subst (λ (x : List HeaderText). IsMessage (record { start = start; headers = x; body = body })) (sym z) (subst (λ (x : List ℕ). IsMessage (record { start = start; headers = map zeroed hs; body = x })) (sym b) good)

-- ---- each line in its turn

zero_step : (hs : List HeaderText) (n : ℕ) (h : HeaderText) → n < length hs → h ≡ get_or (map zeroed (take n hs) ++ drop n hs) n h → slice_set (map zeroed (take n hs) ++ drop n hs) n (zeroed h) ≡ map zeroed (take (suc n) hs) ++ drop (suc n) hs
zero_step [] n h lt e = absurd (omega arith)
zero_step (x ∷ hs) zero h lt e = ap (λ (y : HeaderText). zeroed y ∷ hs) e
zero_step (x ∷ hs) (suc n) h lt e = ap (λ (ys : List HeaderText). zeroed x ∷ ys) (zero_step hs n h (omega arith) e)

header_got : (text : List ℕ) (lines : List LinePlaces) (n : ℕ) (line d : LinePlaces) → line ≡ get_or lines n d → n < length lines → header_in text line ≡ get_or (headers_in text lines) n (header_in text line)
header_got text [] n line d e lt = absurd (omega arith)
header_got text (x ∷ lines) zero line d e lt = ap (header_in text) e
header_got text (x ∷ lines) (suc n) line d e lt = header_got text lines n line d e (omega arith)

header_set : (text : List ℕ) (lines : List LinePlaces) (n : ℕ) (line : LinePlaces) → headers_in text (slice_set lines n line) ≡ slice_set (headers_in text lines) n (header_in text line)
header_set text [] n line = refl
header_set text (x ∷ lines) zero line = refl
header_set text (x ∷ lines) (suc n) line = ap (λ (ys : List HeaderText). header_in text x ∷ ys) (header_set text lines n line)

pub zero_next : (text : List ℕ) (all lines : List LinePlaces) (n : ℕ) (line d zero_line : LinePlaces) → n < length lines → length lines ≡ length all → headers_in text lines ≡ map zeroed (take n (headers_in text all)) ++ drop n (headers_in text all) → line ≡ get_or lines n d → header_in text zero_line ≡ zeroed (header_in text line) → headers_in text (slice_set lines n zero_line) ≡ map zeroed (take (n + 1) (headers_in text all)) ++ drop (n + 1) (headers_in text all)
zero_next text all lines n line d zero_line lt same so_far at z =
    let hs = headers_in text all in
    let now = map zeroed (take n hs) ++ drop n hs in
    let h = header_in text line in
    let below : n < length hs = grind (arith, common_steps) in
    let got : h ≡ get_or now n h = header_got text lines n line d at lt ∙ ap (λ (ys : List HeaderText). get_or ys n h) so_far in
    let next : n + 1 ≡ suc n = omega arith in
    header_set text lines n zero_line ∙ ap (λ (ys : List HeaderText). slice_set ys n (header_in text zero_line)) so_far ∙ ap (slice_set now n) z ∙ zero_step hs n h below got ∙ ap (λ m. map zeroed (take m hs) ++ drop m hs) (sym next)

-- ---- the message without its body

pub zeroed_kept : (text grown : List ℕ) (start : StartPlaces) (lines zeros : List LinePlaces) → IsStartWithin (length text) start → AreLinesWithin (length text) lines → IsHead (start_in text start) (headers_in text lines) → grown ≡ text ++ 48 ∷ [] → headers_in grown zeros ≡ map zeroed (headers_in grown lines) → AreLinesWithin (length grown) zeros → (placed_message grown start zeros (record { start = 0; len = 0 }) ≡ head_of (start_in text start) (headers_in text lines)) × IsKept grown start zeros (record { start = 0; len = 0 })
zeroed_kept text grown start lines zeros first all head is z within =
    let first_same : start_in grown start ≡ start_in text start = ap (λ (xs : List ℕ). start_in xs start) is ∙ start_grown text (48 ∷ []) start first in
    let all_same : headers_in grown lines ≡ headers_in text lines = ap (λ (xs : List ℕ). headers_in xs lines) is ∙ lines_alike text (text ++ 48 ∷ []) lines (part_grown text (48 ∷ [])) all in
    let whole : placed_message grown start zeros (record { start = 0; len = 0 }) ≡ head_of (start_in text start) (headers_in text lines) =
    (let headers = z ∙ ap (map zeroed) all_same in cc) in
    let size : length grown ≡ length text + 1 = ap length is ∙ length-append text (48 ∷ []) in
    let good : IsMessage (head_of (start_in text start) (headers_in text lines)) = without_body_good (start_in text start) (headers_in text lines) (map zeroed (headers_in text lines)) [] refl refl head in (
      whole,
      record {
        start_within = start_room (length text) (length grown) start (omega arith) first;
        lines_within = within;
        body_within = omega arith;
        message = subst IsMessage (sym whole) good;
      },
    )

-- lines that were written back into a list of as many
pub written_back : (items new : List LinePlaces) (hs : List HeaderText) (text : List ℕ) (len : ℕ) → len ≡ length items → headers_in text new ≡ map zeroed hs → hs ≡ headers_in text items → take len (new ++ drop (length new) items) ≡ new
written_back items new hs text len size e h =
    let same : length new ≡ length items = grind (arith, common_steps) in
    let rest : drop (length new) items ≡ [] = grind (arith, common_steps) in
    ap (λ (xs : List LinePlaces). take len (new ++ xs)) rest ∙ ap (take len) (append-nil new) ∙ ap (λ n. take n new) (size ∙ sym same) ∙ take-length new
