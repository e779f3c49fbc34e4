-- What is read is such as may be written.
use Rattle.sip_text.proofs.Common.{◌≡◌, ℕ, suc, ◌+◌, ◌-◌, ◌≤◌, Bool, true, false, List, [], ◌∷◌, ◌++◌, length, take, drop, reverse, Option, Some, None, refl, sym, ap, subst, ◌∙◌, inl, inr, arith, ◌&&◌, list_all, flat_map, prefix_len}
use Rattle.sip_text.proofs.Common.{suffix_len, AllByRecursion, and_parts, cases_Bool, cond_both, cond-true, cond-false, take-append-drop, list_all-append, is_space, trim, trim_start, cut, is, behind, line_in}
use Rattle.sip_text.proofs.Common.{pieces, cut_joins, cut_lacks, is_header, is_line, is_line_byte, is_trimmed, Group, Headers, Lines, before_group, begins_with_space, closed, header_of, header_of_cut, joined, lines_from, part_text, tail_of_group}
use Rattle.sip_text.proofs.Common.{tail_of_lines, with_header, with_line, HeaderText, common_steps, rules}
use Rattle.std.proofs.Common.{length-drop}
use Rattle.std.proofs.lemmas.List.{drop_at, length-reverse, reverse-append}
use Rattle.sip_lex.specs.Cut.{Lacks}
use Rattle.sip_lex.specs.Line.{line_of_cut}
use Rattle.sip_lex.proofs.laws.Cuts.{Lacks-front}
use Rattle.sip_lex.proofs.laws.Splits.{pieces_lack}
use Rattle.sip_text.specs.Reading.{grouped, headers_at, lines_at, tail_at}

abbrev Cut : Type 0
Cut = List ℕ × Option (List ℕ)

abbrev is_colon : ℕ → Bool
is_colon = is 58

pub and_both : (x y : Bool) → x ≡ true → y ≡ true → (x && y) ≡ true
and_both x y e f = grind arith

abbrev pub found : {A : Type 0} → A → Option A
found x = Some x

pub some_is : {A : Type 0} (x y : A) → found x ≡ found y → x ≡ y
some_is x y e = cc

-- ---- bytes of lines

pub line_of_lacks : (bs : List ℕ) → Lacks 13 bs → Lacks 10 bs → is_line bs ≡ true
line_of_lacks [] h k = refl
line_of_lacks (b ∷ bs) h k = grind (arith, line_of_lacks bs h.1 k.1)

all_parts : (p : ℕ → Bool) (n : ℕ) (bs : List ℕ) → list_all p bs ≡ true → (list_all p (take n bs) ≡ true) × (list_all p (drop n bs) ≡ true)
all_parts p n bs h = and_parts (list_all p (take n bs)) (list_all p (drop n bs)) (sym (list_all-append p (take n bs) (drop n bs)) ∙ ap (list_all p) (take-append-drop n bs) ∙ h)

pub all_trim : (p : ℕ → Bool) (bs : List ℕ) → list_all p bs ≡ true → list_all p (trim bs) ≡ true
all_trim p bs h =
    let s = trim_start bs in
    (all_parts p (length s - suffix_len is_space s) s (all_parts p (prefix_len is_space bs) bs h).1).0

-- ---- space at the ends

drop_spaces : (bs : List ℕ) → begins_with_space (drop (prefix_len is_space bs) bs) ≡ false
drop_spaces [] = refl
drop_spaces (b ∷ bs) =
    cond_both (is_space b) (1 + prefix_len is_space bs) 0 (λ n. begins_with_space (drop n (b ∷ bs)) ≡ false)
    (λ e. ap (λ n. begins_with_space (drop n (b ∷ bs))) (let k : 1 + prefix_len is_space bs ≡ suc (prefix_len is_space bs) = omega arith in k) ∙ drop_spaces bs)
    (λ e. e)

take_no_space : (n : ℕ) (bs : List ℕ) → begins_with_space bs ≡ false → begins_with_space (take n bs) ≡ false
take_no_space n bs h = grind arith

reverse_take : (k : ℕ) (bs : List ℕ) → k ≤ length bs → reverse (take (length bs - k) bs) ≡ drop k (reverse bs)
reverse_take k bs le =
    let m = length bs - k in
    let len : length (reverse (drop m bs)) ≡ k = length-reverse (drop m bs) ∙ length-drop m bs ∙ omega arith in
    sym (ap (λ (x : List ℕ). drop k (reverse x)) (sym (take-append-drop m bs)) ∙ ap (drop k) (reverse-append (take m bs) (drop m bs)) ∙ drop_at (reverse (drop m bs)) (reverse (take m bs)) k len)

pub trim_front : (bs : List ℕ) → begins_with_space (trim bs) ≡ false
trim_front bs = let s = trim_start bs in take_no_space (length s - suffix_len is_space s) s (drop_spaces bs)

pub trim_trimmed : (bs : List ℕ) → is_trimmed (trim bs) ≡ true
trim_trimmed bs = grind (arith, trim_front, reverse_take, drop_spaces)

-- ---- headers

parts_line : (parts : List (List ℕ)) → list_all is_line parts ≡ true → is_line (flat_map part_text parts) ≡ true
parts_line [] h = refl
parts_line (part ∷ parts) h =
    let each = and_parts (is_line part) (list_all is_line parts) h in
    list_all-append is_line_byte part (flat_map part_text parts) ∙ and_both (is_line part) (is_line (flat_map part_text parts)) each.0 (parts_line parts each.1)

joined_line : (value : List ℕ) (parts : List (List ℕ)) → is_line value ≡ true → list_all is_line parts ≡ true → is_line (joined value parts) ≡ true
joined_line value parts h k = grind (arith, common_steps, all_trim, parts_line)

-- what stands behind a byte of a line is one
pub behind_line : (line front raw : List ℕ) (b : ℕ) → line ≡ front ++ b ∷ raw → is_line line ≡ true → is_line raw ≡ true
behind_line line front raw b e h = grind (arith, common_steps)

header_good : (line : List ℕ) (c : Cut) (parts : List (List ℕ)) (h : HeaderText) → line ≡ c.0 ++ behind 58 c.1 → is_line line ≡ true → list_all is_line parts ≡ true → header_of_cut c parts ≡ Some h → is_header h ≡ true
header_good line c parts h e l p read = search (rules, cases_Bool, and_both, joined_line, all_trim, behind_line, trim_trimmed, some_is, cond-true, found, cond-false)

pub record GoodGroup (g : Group) : Type 0 where
  pub parts : list_all is_line g.0 ≡ true
  pub headers : list_all is_header g.1 ≡ true

with_header_good : (o : Option HeaderText) (hs : List HeaderText) (g : Group) → ((h : HeaderText) → o ≡ Some h → is_header h ≡ true) → list_all is_header hs ≡ true → with_header o hs ≡ Some g → GoodGroup g
with_header_good o hs g good all read = grind arith

before_good : (line : List ℕ) (o : Option Group) (g : Group) → is_line line ≡ true → ((later : Group) → o ≡ Some later → GoodGroup later) → before_group line o ≡ Some g → GoodGroup g
before_good line None g l good read = absurd cc
before_good line (Some later) g l good read =
    let kept = good later refl in
    elim (cases_Bool (begins_with_space line)) [
      | inl space ↦
          subst GoodGroup (some_is (trim line ∷ later.0, later.1) g (sym (cond-true _ _ _ space) ∙ read)) (record { parts = and_both (is_line (trim line)) (list_all is_line later.0) (all_trim is_line_byte line l) kept.parts; headers = kept.headers })
      | inr none ↦
          with_header_good (header_of line later.0) later.1 g (λ h e. header_good line (cut is_colon line) later.0 h (cut_joins 58 line) l kept.parts e) kept.headers (sym (cond-false _ _ _ none) ∙ read)
    ]

pub grouped_good : (lines : List (List ℕ)) (g : Group) → list_all is_line lines ≡ true → grouped lines ≡ Some g → GoodGroup g
unfolding grouped
grouped_good [] g l read = subst GoodGroup (some_is ([], []) g read) (record { parts = refl; headers = refl })
grouped_good (line ∷ lines) g l read =
    let both = and_parts (is_line line) (list_all is_line lines) l in
    before_good line (grouped lines) g both.0 (λ later e. grouped_good lines later both.1 e) read

-- ---- lines

line_of_cut_is : (piece line : List ℕ) (c : Cut) → Lacks 10 piece → piece ≡ c.0 ++ behind 13 c.1 → Lacks 13 c.0 → line_of_cut c ≡ Some line → is_line line ≡ true
line_of_cut_is piece line (l, None) h e k read = absurd cc
line_of_cut_is piece line (l, Some (b ∷ bs)) h e k read = absurd cc
line_of_cut_is piece line (l, Some []) h e k read = subst (λ (x : List ℕ). is_line x ≡ true) (some_is l line read) (line_of_lacks l k (Lacks-front 10 l (13 ∷ []) (subst (λ (x : List ℕ). Lacks 10 x) e h)))

with_line_good : (line : List ℕ) (later : Option Lines) (x : Lines) → is_line line ≡ true → ((y : Lines) → later ≡ Some y → list_all is_line y.0 ≡ true) → with_line line later ≡ Some x → list_all is_line x.0 ≡ true
with_line_good line later x l good read = grind arith

lines_from_good : (line : Option (List ℕ)) (later : Option Lines) (behind : List (List ℕ)) (x : Lines) → ((l : List ℕ) → line ≡ Some l → is_line l ≡ true) → ((y : Lines) → later ≡ Some y → list_all is_line y.0 ≡ true) → lines_from line later behind ≡ Some x → list_all is_line x.0 ≡ true
lines_from_good None later behind x l good read = absurd cc
lines_from_good (Some []) later behind x l good read = ap (λ (z : Lines). list_all is_line z.0) (sym (some_is ([], behind) x read))
lines_from_good (Some (b ∷ bs)) later behind x l good read = with_line_good (b ∷ bs) later x (l (b ∷ bs) refl) good read

pub lines_good : (ps : List (List ℕ)) (x : Lines) → AllByRecursion (Lacks 10) ps → lines_at ps ≡ Some x → list_all is_line x.0 ≡ true
unfolding lines_at
lines_good [] x h read = absurd cc
lines_good (piece ∷ []) x h read = absurd cc
lines_good (piece ∷ next ∷ more) x h read =
    lines_from_good (line_in piece) (lines_at (next ∷ more)) (next ∷ more) x (λ l e. line_of_cut_is piece l (cut (is 13) piece) h.0 (cut_joins 13 piece) (cut_lacks 13 piece) e) (λ y e. lines_good (next ∷ more) y h.1 e) read

-- ---- the headers of a text

closed_group : (o : Option Group) (rest : List (List ℕ)) (x : Headers) → ((g : Group) → o ≡ Some g → GoodGroup g) → closed (tail_of_group o rest) ≡ Some x → list_all is_header x.0 ≡ true
closed_group o rest x good read = grind arith

closed_lines : (o : Option Lines) (x : Headers) → ((y : Lines) → o ≡ Some y → list_all is_line y.0 ≡ true) → closed (tail_of_lines o) ≡ Some x → list_all is_header x.0 ≡ true
closed_lines None x good read = absurd cc
closed_lines (Some y) x good read = closed_group (grouped y.0) y.1 x (λ g e. grouped_good y.0 g (good y refl) e) read

pub headers_good : (text : List ℕ) (x : Headers) → headers_at text ≡ Some x → list_all is_header x.0 ≡ true
unfolding headers_at tail_at
headers_good text x read = closed_lines (lines_at (pieces 10 text)) x (λ y e. lines_good (pieces 10 text) y (pieces_lack 10 text) e) read
