-- Which texts are header values.
use Rattle.sip_builders.proofs.Common.{◌≡◌, ℕ, ◌<◌, Bool, true, false, not, List, [], ◌∷◌, ◌++◌, length, map, take, reverse, refl, ◌∙◌, arith, codes, list_all, flat_map, filter, and_parts, and_from, cond_both, reverse-append, list_all-append, Quotes, ShelterState}
use Rattle.sip_builders.proofs.Common.{Plain, is_space, is_token, trim, pieces_from, place_after, is_header, is_line, is_line_byte, is_trimmed, is_value, first_of, begins_with_space, HeaderText, MessageText, line, has_name, or_empty, no_space, first_or_empty}
use Rattle.sip_builders.proofs.Common.{top_value, values_in, via_values, common_steps}
use Rattle.sip_uri.proofs.laws.Values.{onto_line}
use Rattle.sip_lex.specs.Outside.{pieces_outside}
use Rattle.sip_text.specs.Name.{values_of}
use Rattle.sip_text.proofs.laws.Good.{trim_trimmed, all_trim}
use Rattle.sip_via.specs.TopVia.{via_lines}

-- ---- parts of lines

pub trimmed_value : (bs : List ℕ) → is_line bs ≡ true → is_value (trim bs) ≡ true
trimmed_value bs h = and_from (is_line (trim bs)) (is_trimmed (trim bs)) (all_trim is_line_byte bs h) (trim_trimmed bs)

pieces_line : (mark : ℕ) (place : ShelterState) (bs : List ℕ) → is_line bs ≡ true → list_all is_line (pieces_from Quotes mark place bs) ≡ true
pieces_line mark place [] h = refl
pieces_line mark place (b ∷ bs) h =
    let each = and_parts (is_line_byte b) (is_line bs) h in
    grind (arith, common_steps, onto_line b (pieces_from Quotes mark (place_after Quotes place b) bs) each.0 (pieces_line mark (place_after Quotes place b) bs each.1), pieces_line mark Plain bs each.1, cond_both)

trimmed_values : (ps : List (List ℕ)) → list_all is_line ps ≡ true → list_all is_value (map trim ps) ≡ true
trimmed_values [] h = refl
trimmed_values (p ∷ ps) h =
    let each = and_parts (is_line p) (list_all is_line ps) h in
    and_from (is_value (trim p)) (list_all is_value (map trim ps)) (trimmed_value p each.0) (trimmed_values ps each.1)

-- ---- values of a message

value_line : (v : List ℕ) → is_value v ≡ true → is_line v ≡ true
value_line v h = (and_parts (is_line v) (is_trimmed v) h).0

pub values_good : (name : List ℕ) (hs : List HeaderText) → list_all is_header hs ≡ true → list_all is_value (values_of name hs) ≡ true
unfolding values_of
values_good name [] h = refl
values_good name (x ∷ hs) h =
    let each = and_parts (is_header x) (list_all is_header hs) h in
    grind (arith, common_steps, values_good name hs each.1, and_parts, cond_both, and_from)

pub first_good : (vs : List (List ℕ)) → list_all is_value vs ≡ true → is_value (or_empty (first_of vs)) ≡ true
first_good vs h = grind arith

vias_good : (lines : List (List ℕ)) → list_all is_value lines ≡ true → list_all is_value (flat_map values_in lines) ≡ true
vias_good [] h = refl
vias_good (l ∷ lines) h =
    let each = and_parts (is_value l) (list_all is_value lines) h in
    grind (arith, common_steps, list_all-append is_value (values_in l) (flat_map values_in lines), trimmed_values (pieces_outside Quotes 44 l) (pieces_line 44 Plain l (value_line l each.0)), vias_good lines each.1, and_from, pieces_line, value_line)

top_of_good : (vs : List (List ℕ)) → list_all is_value vs ≡ true → is_value (first_or_empty vs) ≡ true
top_of_good vs h = grind arith

pub top_good : (m : MessageText) → list_all is_header m.headers ≡ true → is_value (top_value m) ≡ true
top_good m h = top_of_good (via_values m) (vias_good (via_lines m) (values_good (codes "via") m.headers h))

-- ---- header lines

pub filter_good : (name : List ℕ) (hs : List HeaderText) → list_all is_header hs ≡ true → list_all is_header (filter (has_name name) hs) ≡ true
filter_good name [] h = refl
filter_good name (x ∷ hs) h =
    let each = and_parts (is_header x) (list_all is_header hs) h in
    grind (arith, common_steps, filter_good name hs each.1, cond_both, and_from)

pub one_good : (block : List HeaderText) → list_all is_header block ≡ true → list_all is_header (take 1 block) ≡ true
one_good block h = grind arith

pub lines_good : (name : List ℕ) (vs : List (List ℕ)) → is_token name ≡ true → list_all is_value vs ≡ true → list_all is_header (map (line name) vs) ≡ true
lines_good name [] t h = refl
lines_good name (v ∷ vs) t h =
    let each = and_parts (is_value v) (list_all is_value vs) h in
    and_from (is_header (line name v)) (list_all is_header (map (line name) vs)) (and_from (is_token name) (is_value v) t each.0) (lines_good name vs t each.1)

pub joined_good : (xs ys : List HeaderText) → list_all is_header xs ≡ true → list_all is_header ys ≡ true → list_all is_header (xs ++ ys) ≡ true
joined_good xs ys h k = list_all-append is_header xs ys ∙ and_from (list_all is_header xs) (list_all is_header ys) h k

-- ---- a value with a text behind it

all_reverse : (p : ℕ → Bool) (bs : List ℕ) → list_all p bs ≡ true → list_all p (reverse bs) ≡ true
all_reverse p [] h = refl
all_reverse p (b ∷ bs) h =
    let each = and_parts (p b) (list_all p bs) h in
    grind (arith, common_steps, reverse-append (b ∷ []) bs, list_all-append p (reverse bs) (b ∷ []), and_from (list_all p (reverse bs)) (list_all p (b ∷ [])) (all_reverse p bs each.1) (and_from (p b) true each.0 refl))

not_is : (b : Bool) → not b ≡ true → b ≡ false
not_is b e = grind arith

pub ends : (bs front : List ℕ) → 0 < length bs → list_all no_space bs ≡ true → begins_with_space (bs ++ front) ≡ false
ends [] front some h = absurd (omega arith)
ends (b ∷ bs) front some h = not_is (is_space b) (and_parts (no_space b) (list_all no_space bs) h).0

begins : (v bs : List ℕ) → begins_with_space v ≡ false → begins_with_space bs ≡ false → begins_with_space (v ++ bs) ≡ false
begins v bs h k = grind arith

-- a value before a text without space is one
pub behind_good : (v bs : List ℕ) → is_value v ≡ true → is_line bs ≡ true → 0 < length bs → list_all no_space bs ≡ true → is_value (v ++ bs) ≡ true
behind_good v bs h l some k = grind (arith, common_steps, ends, all_reverse)
