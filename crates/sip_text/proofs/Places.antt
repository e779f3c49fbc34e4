-- Parts of a text by their places.
use Rattle.sip_text.proofs.Common.{◌≡◌, ℕ, zero, suc, ◌+◌, ◌<◌, ◌≤◌, List, [], ◌∷◌, ◌++◌, length, take, drop, get_or, refl, sym, ap, subst, ◌∙◌, arith, common_steps}
use Rattle.sip_text.proofs.Common.{header_in, headers_in, part_at, start_in, valued_at, with_value_at, with_part_at, without_line_at, IsMessage, HeaderText, MessageText}
use Rattle.std.proofs.Common.{slice_set}
use Rattle.std.specs.List.{remove}
use Rattle.sip_text.specs.declared.place.LinePlaces.{LinePlaces}
use Rattle.sip_lex.specs.declared.place.PartPlace.{PartPlace}
use Rattle.sip_text.specs.declared.place.StartPlaces.{StartPlaces}
use Rattle.sip_text.specs.declared.place.StartPlaces.TheVariants.{Request, Response}
use Rattle.sip_text.specs.inner.Kept.{AreLinesWithin, IsKept, IsLineWithin, IsStartWithin, placed_message}
use Rattle.sip_lex.specs.Places.{IsWithin}

-- ---- a text that grew

pub part_grown : (text more : List ℕ) (place : PartPlace) → IsWithin (length text) place → part_at (text ++ more) place ≡ part_at text place
part_grown text more place within = grind (arith, common_steps)

pub start_grown : (text more : List ℕ) (start : StartPlaces) → IsStartWithin (length text) start → start_in (text ++ more) start ≡ start_in text start
start_grown text more (Request method uri) within = grind (arith, part_grown)
start_grown text more (Response status reason) within = grind (arith, part_grown)

-- what stands behind a text
pub part_behind : (text more : List ℕ) → take (length more) (drop (length text) (text ++ more)) ≡ more
part_behind text more = grind (arith, common_steps)

pub start_room : (room more : ℕ) (start : StartPlaces) → room ≤ more → IsStartWithin room start → IsStartWithin more start
start_room room more (Request method uri) h within = (omega arith, omega arith)
start_room room more (Response status reason) h within = omega arith

line_room : (room more : ℕ) (line : LinePlaces) → room ≤ more → IsLineWithin room line → IsLineWithin more line
line_room room more line h within = (omega arith, omega arith)

pub lines_room : (room more : ℕ) (lines : List LinePlaces) → room ≤ more → AreLinesWithin room lines → AreLinesWithin more lines
lines_room room more [] h within = tt
lines_room room more (line ∷ lines) h within = (line_room room more line h within.0, lines_room room more lines h within.1)

-- ---- header lines of which one is another

pub lines_set : (room : ℕ) (lines : List LinePlaces) (n : ℕ) (line : LinePlaces) → AreLinesWithin room lines → IsLineWithin room line → AreLinesWithin room (slice_set lines n line)
lines_set room [] n line within one = tt
lines_set room (x ∷ lines) zero line within one = (one, within.1)
lines_set room (x ∷ lines) (suc n) line within one = (within.0, lines_set room lines n line within.1 one)

pub line_within : (room : ℕ) (lines : List LinePlaces) (n : ℕ) (line : LinePlaces) → AreLinesWithin room lines → n < length lines → line ≡ get_or lines n line → IsLineWithin room line
line_within room [] n line within lt e = absurd (omega arith)
line_within room (x ∷ lines) zero line within lt e = subst (IsLineWithin room) (sym e) within.0
line_within room (x ∷ lines) (suc n) line within lt e = line_within room lines n line within.1 (omega arith) e

-- what two texts show alike at each place of the first
abbrev pub Alike : List ℕ → List ℕ → Type 0
Alike text other = (place : PartPlace) → IsWithin (length text) place → part_at other place ≡ part_at text place

pub lines_alike : (text other : List ℕ) (lines : List LinePlaces) → Alike text other → AreLinesWithin (length text) lines → headers_in other lines ≡ headers_in text lines
lines_alike text other [] alike within = refl
lines_alike text other (x ∷ lines) alike within =
    let rest = lines_alike text other lines alike within.1 in
    let name = alike x.name within.0.0 in
    let value = alike x.value within.0.1 in
    cc

lines_changed : (text other : List ℕ) (change : List ℕ → List ℕ) (lines : List LinePlaces) (n : ℕ) (line : LinePlaces) (place : PartPlace) → Alike text other → AreLinesWithin (length text) lines → n < length lines → line ≡ get_or lines n line → part_at other place ≡ change (part_at text line.value) → headers_in other (slice_set lines n (record { name = line.name; value = place })) ≡ valued_at change n (headers_in text lines)
lines_changed text other change [] n line place alike within lt at is = absurd (omega arith)
lines_changed text other change (x ∷ lines) zero line place alike within lt at is =
    let rest = lines_alike text other lines alike within.1 in
    let name = alike x.name within.0.0 in
    let same_name : part_at other line.name ≡ part_at other x.name = ap (λ (y : LinePlaces). part_at other y.name) at in
    let same_value : change (part_at text line.value) ≡ change (part_at text x.value) = ap (λ (y : LinePlaces). change (part_at text y.value)) at in
    cc
lines_changed text other change (x ∷ lines) (suc n) line place alike within lt at is =
    let rest = lines_changed text other change lines n line place alike within.1 (omega arith) at is in
    let name = alike x.name within.0.0 in
    let value = alike x.value within.0.1 in
    cc

-- ---- messages of which one header line is another

abbrev with_line : LinePlaces → PartPlace → LinePlaces
with_line line place = record { name = line.name; value = place }

abbrev behind : List ℕ → List ℕ → PartPlace
behind text more = record { start = length text; len = length more }

pub value_is_put : (text value : List ℕ) (start : StartPlaces) (lines : List LinePlaces) (body : PartPlace) (n : ℕ) (line : LinePlaces) → IsKept text start lines body → n < length lines → line ≡ get_or lines n line → placed_message (text ++ value) start (slice_set lines n (with_line line (behind text value))) body ≡ with_value_at n value (placed_message text start lines body)
value_is_put text value start lines body n line kept lt at =
    let first = start_grown text value start kept.start_within in
    let all = lines_changed text (text ++ value) (λ _. value) lines n line (behind text value) (part_grown text value) kept.lines_within lt at (part_behind text value) in
    let last = part_grown text value body kept.body_within in
    cc

pub value_is_kept : (text value : List ℕ) (start : StartPlaces) (lines : List LinePlaces) (body : PartPlace) (n : ℕ) (line : LinePlaces) (m : MessageText) → IsKept text start lines body → placed_message text start lines body ≡ m → n < length lines → line ≡ get_or lines n line → IsMessage (with_value_at n value m) → IsKept (text ++ value) start (slice_set lines n (with_line line (behind text value))) body
value_is_kept text value start lines body n line m kept is lt at good =
    let more : length text + length value ≡ length (text ++ value) = grind (arith, common_steps) in
    let room : length text ≤ length (text ++ value) = omega arith in
    let old = line_within (length text) lines n line kept.lines_within lt at in
    record {
      start_within = start_room (length text) (length (text ++ value)) start room kept.start_within;
      lines_within = lines_set (length (text ++ value)) lines n (with_line line (behind text value)) (lines_room (length text) (length (text ++ value)) lines room kept.lines_within) (omega arith, omega arith);
      body_within = omega (arith, kept.body_within);
      message = subst IsMessage (ap (with_value_at n value) (sym is) ∙ sym (value_is_put text value start lines body n line kept lt at)) good;
    }

pub part_is_put : (text : List ℕ) (start : StartPlaces) (lines : List LinePlaces) (body : PartPlace) (n from len : ℕ) (line : LinePlaces) (place : PartPlace) → IsKept text start lines body → n < length lines → line ≡ get_or lines n line → ((other : List ℕ) → part_at other place ≡ take len (drop from (part_at other line.value))) → placed_message text start (slice_set lines n (with_line line place)) body ≡ with_part_at n from len (placed_message text start lines body)
part_is_put text start lines body n from len line place kept lt at is =
    let all = lines_changed text text (λ v. take len (drop from v)) lines n line place (λ p w. refl) kept.lines_within lt at (is text) in
    cc

pub part_is_kept : (text : List ℕ) (start : StartPlaces) (lines : List LinePlaces) (body : PartPlace) (n from len : ℕ) (line : LinePlaces) (place : PartPlace) (m : MessageText) → IsKept text start lines body → placed_message text start lines body ≡ m → n < length lines → line ≡ get_or lines n line → ((other : List ℕ) → part_at other place ≡ take len (drop from (part_at other line.value))) → place.start + place.len ≤ line.value.start + line.value.len → IsMessage (with_part_at n from len m) → IsKept text start (slice_set lines n (with_line line place)) body
part_is_kept text start lines body n from len line place m kept is lt at part within good =
    let old = line_within (length text) lines n line kept.lines_within lt at in
    record {
      start_within = kept.start_within;
      lines_within = lines_set (length text) lines n (with_line line place) kept.lines_within (old.0, omega arith);
      body_within = kept.body_within;
      message = subst IsMessage (ap (with_part_at n from len) (sym is) ∙ sym (part_is_put text start lines body n from len line place kept lt at part)) good;
    }

-- ---- messages without one header line

lines_without : (room : ℕ) (lines : List LinePlaces) (n : ℕ) → AreLinesWithin room lines → AreLinesWithin room (remove lines n)
lines_without room [] zero within = tt
lines_without room [] (suc n) within = tt
lines_without room (x ∷ lines) zero within = within.1
lines_without room (x ∷ lines) (suc n) within = (within.0, lines_without room lines n within.1)

headers_without : (text : List ℕ) (lines : List LinePlaces) (n : ℕ) → headers_in text (remove lines n) ≡ remove (headers_in text lines) n
headers_without text [] zero = refl
headers_without text [] (suc n) = refl
headers_without text (x ∷ lines) zero = refl
headers_without text (x ∷ lines) (suc n) = ap (λ (hs : List HeaderText). header_in text x ∷ hs) (headers_without text lines n)

pub line_is_gone : (text : List ℕ) (start : StartPlaces) (lines : List LinePlaces) (body : PartPlace) (n : ℕ) → placed_message text start (remove lines n) body ≡ without_line_at n (placed_message text start lines body)
line_is_gone text start lines body n = let all = headers_without text lines n in cc

pub gone_is_kept : (text : List ℕ) (start : StartPlaces) (lines : List LinePlaces) (body : PartPlace) (n : ℕ) (m : MessageText) → IsKept text start lines body → placed_message text start lines body ≡ m → IsMessage (without_line_at n m) → IsKept text start (remove lines n) body
gone_is_kept text start lines body n m kept is good = record {
  start_within = kept.start_within;
  lines_within = lines_without (length text) lines n kept.lines_within;
  body_within = kept.body_within;
  message = subst IsMessage (ap (without_line_at n) (sym is) ∙ sym (line_is_gone text start lines body n)) good;
}

-- as many lines as headers
pub lines_length : (text : List ℕ) (start : StartPlaces) (lines : List LinePlaces) (body : PartPlace) (m : MessageText) (n : ℕ) → placed_message text start lines body ≡ m → n < length m.headers → n < length lines
lines_length text start lines body m n is lt = grind (arith, common_steps)
