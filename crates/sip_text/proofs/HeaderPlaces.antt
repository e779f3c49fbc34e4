-- Header lines by their places, as they are read.
use Rattle.sip_text.proofs.Common.{◌≡◌, ℕ, ◌+◌, ◌-◌, ◌≤◌, true, false, List, [], ◌∷◌, ◌++◌, length, take, drop, Option, Some, None, not, refl, reverse, sym, ap, subst, ◌∙◌, append_assoc, arith, cond-true, cond_both, and_parts, append-nil, length-append, length-take, take-append-drop}
use Rattle.sip_text.proofs.Common.{is_token, trim, trim_end, trim_start, cut, is, Headers, HeaderText, continued, valued, begins_with_space, ended, header_in, headers_in, header_of, header_of_cut, headers_at, joined, part_at, tail_at}
use Rattle.sip_text.proofs.laws.Good.{trim_front, trim_trimmed}
use Rattle.sip_text.proofs.Tails.{value_ends}
use Rattle.sip_text.specs.inner.Heads.{IsNamed, front_header, put}
use Rattle.sip_text.specs.Reading.{Tail}
use Rattle.std.proofs.lemmas.Bool.{not-true}
use Rattle.std.proofs.lemmas.List.{reverse-reverse, map_push, take-take}
use Rattle.sip_lex.proofs.laws.Cuts.{cut_again}
use Rattle.sip_lex.proofs.laws.Trims.{token_lacks, trim_end-reverse, trim_end-token, trim_end-whole, trim_start-none, trim_start-whole}
use Rattle.sip_text.specs.declared.place.LinePlaces.{LinePlaces}
use Rattle.sip_lex.specs.declared.place.PartPlace.{PartPlace}
use Rattle.sip_text.specs.inner.Kept.{AreLinesWithin, IsAt, IsLineWithin, line_moved}
use Rattle.sip_lex.specs.Places.{IsEnd, IsWithin, moved}
use Rattle.sip_text.proofs.Ends.{at_end, at_front, end_length, moved_part}
use Rattle.sip_text.proofs.Places.{lines_alike, lines_room, part_grown}

abbrev found : HeaderText → Option HeaderText
found h = Some h

start_kept : (bs : List ℕ) → begins_with_space bs ≡ false → trim_start bs ≡ bs
start_kept [] e = refl
start_kept (b ∷ bs) e = trim_start-none b bs e

end_kept : (bs : List ℕ) → begins_with_space (reverse bs) ≡ false → trim_end bs ≡ bs
end_kept bs e = trim_end-reverse bs ∙ ap (λ (xs : List ℕ). reverse xs) (start_kept (reverse bs) e) ∙ reverse-reverse bs

pub trim_again : (bs : List ℕ) → trim (trim bs) ≡ trim bs
trim_again bs =
    let both = and_parts (not (begins_with_space (trim bs))) (not (begins_with_space (reverse (trim bs)))) (trim_trimmed bs) in
    ap trim_end (start_kept (trim bs) (trim_front bs)) ∙ end_kept (trim bs) (not-true (begins_with_space (reverse (trim bs))) both.1)

pub trimmed_alone : (bs : List ℕ) → joined (trim bs) [] ≡ trim bs
trimmed_alone bs = ap trim (append-nil (trim bs)) ∙ trim_again bs

-- ---- the lines that continue a header line

cut_with : (c : List ℕ × Option (List ℕ)) (h : HeaderText) (parts : List (List ℕ)) → header_of_cut c [] ≡ found h → header_of_cut c parts ≡ found (record { name = h.name; value = joined h.value parts })
cut_with (front, None) h parts e = absurd cc
cut_with (front, Some raw) h parts e = grind (arith, trimmed_alone)

of_parts : (line : List ℕ) (h : HeaderText) (parts : List (List ℕ)) → found h ≡ header_of line [] → header_of line parts ≡ found (record { name = h.name; value = joined h.value parts })
of_parts line h parts e = cut_with (cut (is 58) line) h parts (sym e)

pub front_lines : (line value : List ℕ) (h : HeaderText) (t : Option Tail) (o : Option Headers) → found h ≡ header_of line [] → continued h.value t ≡ valued value o → front_header line t ≡ put (record { name = h.name; value = value }) o
front_lines line value h None None e c = refl
front_lines line value h None (Some x) e c = absurd cc
front_lines line value h (Some t) None e c = absurd cc
front_lines line value h (Some t) (Some x) e c = grind (arith, of_parts)

-- ---- a header line by itself

pub name_place : (line front raw : List ℕ) → line ≡ front ++ 58 ∷ raw → take (length (trim_end front)) (drop 0 line) ≡ trim_end front
name_place line front raw e =
    let t = trim_end-whole front in
    let whole : line ≡ trim_end front ++ (t.gap ++ 58 ∷ raw) = e ∙ ap (λ (xs : List ℕ). xs ++ 58 ∷ raw) t.whole ∙ append_assoc (trim_end front) t.gap (58 ∷ raw) in
    ap (take (length (trim_end front))) whole ∙ at_front (trim_end front) (t.gap ++ 58 ∷ raw)

pub trimmed_front : (rest : List ℕ) → take (length (trim_end rest)) rest ≡ trim_end rest
trimmed_front rest = let t = trim_end-whole rest in ap (take (length (trim_end rest))) t.whole ∙ at_front (trim_end rest) t.gap

pub trimmed_end : (line front raw rest : List ℕ) → line ≡ front ++ 58 ∷ raw → rest ≡ trim_start raw → IsEnd line rest
trimmed_end line front raw rest e r =
    let t = trim_start-whole raw in
    (front ++ 58 ∷ t.gap, e ∙ ap (λ (xs : List ℕ). front ++ 58 ∷ xs) (t.whole ∙ ap (λ (xs : List ℕ). t.gap ++ xs) (sym r)) ∙ sym (append_assoc front (58 ∷ t.gap) rest))

pub token_named : (line name raw : List ℕ) → is_token name ≡ true → line ≡ name ++ 58 ∷ raw → IsNamed line name raw
token_named line name raw token whole = record {
  front = name;
  cuts = ap (cut (is 58)) whole ∙ cut_again 58 name (Some raw) (token_lacks 58 name refl token);
  whole = whole;
  trimmed = sym (trim_end-token name token);
  token = ap is_token (trim_end-token name token) ∙ token;
}

pub header_is_at : (line front raw name value : List ℕ) → (front, Some raw) ≡ cut (is 58) line → name ≡ trim_end front → value ≡ trim raw → is_token (trim_end front) ≡ true → found (record { name = name; value = value }) ≡ header_of line []
header_is_at line front raw name value e n v token =
    let line_is : header_of line [] ≡ header_of_cut (front, Some raw) [] = ap (λ (c : List ℕ × Option (List ℕ)). header_of_cut c []) (sym e) in
    let cut_is : header_of_cut (front, Some raw) [] ≡ found (record { name = trim_end front; value = joined (trim raw) [] }) = cond-true _ _ _ token in
    let value_is : joined (trim raw) [] ≡ value = trimmed_alone raw ∙ sym v in
    cc

value_of_cut : (c : List ℕ × Option (List ℕ)) (h : HeaderText) → header_of_cut c [] ≡ found h → (raw : List ℕ) × (h.value ≡ trim raw)
value_of_cut (front, None) h e = absurd cc
value_of_cut (front, Some raw) h e =
    cond_both (is_token (trim_end front)) (found (record { name = trim_end front; value = joined (trim raw) [] })) None (λ (o : Option HeaderText). o ≡ found h → (r : List ℕ) × (h.value ≡ trim r))
    (λ t. λ (k : found (record { name = trim_end front; value = joined (trim raw) [] }) ≡ found h). let v : joined (trim raw) [] ≡ h.value = cc in (raw, sym v ∙ trimmed_alone raw))
    (λ t. λ (k : None ≡ found h). absurd cc) e

value_trimmed : (line : List ℕ) (h : HeaderText) → found h ≡ header_of line [] → (raw : List ℕ) × (h.value ≡ trim raw)
value_trimmed line h e = value_of_cut (cut (is 58) line) h (sym e)

pub value_front : (line : List ℕ) (h : HeaderText) → found h ≡ header_of line [] → begins_with_space h.value ≡ false
value_front line h e = let v = value_trimmed line h e in ap begins_with_space v.1 ∙ trim_front v.0

value_again : (line : List ℕ) (h : HeaderText) → found h ≡ header_of line [] → trim h.value ≡ h.value
value_again line h e = let v = value_trimmed line h e in ap trim v.1 ∙ trim_again v.0 ∙ sym v.1

-- ---- in the kept text

pub part_kept : (old new : List ℕ) (place : PartPlace) → take (length old) new ≡ old → IsWithin (length old) place → part_at new place ≡ part_at old place
part_kept old new place begins within =
    let back = drop (length old) new in
    let split : new ≡ old ++ back = sym (take-append-drop (length old) new) ∙ ap (λ (xs : List ℕ). xs ++ back) begins in
    ap (λ (xs : List ℕ). part_at xs place) split ∙ part_grown old back place within

abbrev Moves : List ℕ → List ℕ → ℕ → LinePlaces → Type 0
Moves kept line at places = header_in kept (line_moved at places) ≡ header_in line places

header_moved : (kept line : List ℕ) (at : ℕ) (places : LinePlaces) → IsAt kept at line → IsLineWithin (length line) places → Moves kept line at places
header_moved kept line at places is within =
    let name = moved_part kept line at places.name is within.0 in
    let value = moved_part kept line at places.value is within.1 in
    cc

pub header_plain : (kept line text : List ℕ) (at : ℕ) (places moved_places : LinePlaces) → IsAt kept at line → IsLineWithin (length line) places → found (header_in line places) ≡ header_of line [] → begins_with_space text ≡ false → moved_places ≡ line_moved at places → front_header line (tail_at text) ≡ put (header_in kept moved_places) (headers_at text)
header_plain kept line text at places moved_places is within e space m =
    let h = header_in line places in
    let ends = value_ends h.value text (continued h.value (tail_at text)) space refl in
    let whole = front_lines line (trim h.value) h (tail_at text) (headers_at text) e ends in
    let value = value_again line h e in
    let there = ap (header_in kept) m ∙ header_moved kept line at places is within in
    let same : record { name = h.name; value = trim h.value } ≡ header_in kept moved_places = cc in
    whole ∙ ap (λ (x : HeaderText). put x (headers_at text)) same

pub header_continued : (kept new line : List ℕ) (at : ℕ) (places moved_places : LinePlaces) (value : PartPlace) (t : Option Tail) (o : Option Headers) → IsAt kept at line → at + length line ≤ length kept → IsLineWithin (length line) places → found (header_in line places) ≡ header_of line [] → moved_places ≡ line_moved at places → take (length kept) new ≡ kept → continued (part_at line places.value) t ≡ valued (part_at new value) o → front_header line t ≡ put (header_in new (record { name = moved_places.name; value = value })) o
header_continued kept new line at places moved_places value t o is room within e m begins c =
    let h = header_in line places in
    let whole = front_lines line (part_at new value) h t o e c in
    let inside : IsWithin (length kept) (moved at places.name) = omega (arith, within.0) in
    let name : part_at new moved_places.name ≡ part_at line places.name =
    ap (λ (x : LinePlaces). part_at new x.name) m ∙ part_kept kept new (moved at places.name) begins inside ∙ moved_part kept line at places.name is within.0 in
    let same : record { name = h.name; value = part_at new value } ≡ header_in new (record { name = moved_places.name; value = value }) = cc in
    whole ∙ ap (λ (x : HeaderText). put x o) same

-- ---- the lines so far

pub kept_at : (whole kept rest line after : List ℕ) → take (length whole) kept ≡ whole → IsEnd whole rest → rest ≡ ended line ++ after → IsAt kept (length whole - length rest) line
kept_at whole kept rest line after begins h e =
    let split : rest ≡ line ++ ((13 ∷ 10 ∷ []) ++ after) = e ∙ append_assoc line (13 ∷ 10 ∷ []) after in
    let at = at_end whole rest line ((13 ∷ 10 ∷ []) ++ after) split h in
    let size = end_length whole rest h in
    let place : PartPlace = record { start = length whole - length rest; len = length line } in
    let within : IsWithin (length whole) place = omega (arith, ap length split, length-append line ((13 ∷ 10 ∷ []) ++ after)) in
    part_kept whole kept place begins within ∙ at

pub begins_still : (whole kept new : List ℕ) → take (length whole) kept ≡ whole → take (length kept) new ≡ kept → take (length whole) new ≡ whole
begins_still whole kept new begins more =
    let le : length whole ≤ length kept = omega (arith, ap length begins, length-take (length whole) kept) in
    sym (take-take (length whole) (length kept) new le) ∙ ap (take (length whole)) more ∙ begins

headers_still : (kept new : List ℕ) (lines : List LinePlaces) → take (length kept) new ≡ kept → AreLinesWithin (length kept) lines → headers_in new lines ≡ headers_in kept lines
headers_still kept new lines begins within = lines_alike kept new lines (λ place w. part_kept kept new place begins w) within

pub headers_pushed : (kept new : List ℕ) (lines longer : List LinePlaces) (line : LinePlaces) → take (length kept) new ≡ kept → AreLinesWithin (length kept) lines → longer ≡ lines ++ line ∷ [] → headers_in new longer ≡ headers_in kept lines ++ header_in new line ∷ []
headers_pushed kept new lines longer line begins within e = ap (headers_in new) e ∙ map_push (header_in new) lines line ∙ ap (λ (hs : List HeaderText). hs ++ header_in new line ∷ []) (headers_still kept new lines begins within)

within_push : (room : ℕ) (lines : List LinePlaces) (line : LinePlaces) → AreLinesWithin room lines → IsLineWithin room line → AreLinesWithin room (lines ++ line ∷ [])
within_push room [] line within one = (one, tt)
within_push room (x ∷ lines) line within one = (within.0, within_push room lines line within.1 one)

pub within_pushed : (kept new : List ℕ) (lines longer : List LinePlaces) (line : LinePlaces) → take (length kept) new ≡ kept → AreLinesWithin (length kept) lines → IsLineWithin (length new) line → longer ≡ lines ++ line ∷ [] → AreLinesWithin (length new) longer
within_pushed kept new lines longer line begins within one e =
    let le : length kept ≤ length new = omega (arith, ap length begins, length-take (length kept) new) in
    subst (AreLinesWithin (length new)) (sym e) (within_push (length new) lines line (lines_room (length kept) (length new) lines le within) one)
