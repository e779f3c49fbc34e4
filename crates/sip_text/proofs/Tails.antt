-- The lines of a text, one by one.
use Rattle.sip_text.proofs.Common.{◌≡◌, ℕ, true, false, cond, List, [], ◌∷◌, ◌++◌, length, take, Option, Some, None, Ok, Err, sym, ap, ◌∙◌, arith}
use Rattle.sip_text.proofs.Common.{is_space, is_token, trim, cut, is, ended, line_at, pieces}
use Rattle.sip_text.proofs.Common.{trim-space, FailsAs, continued, or_bad, prepended, valued, with_part, Fault, BadHeader, Group, Headers, Lines, before_group, begins_with_space, closed, header_of, header_of_cut, lines_from, tail_of_group}
use Rattle.sip_text.proofs.Common.{tail_of_lines, HeaderText, common_steps, rules}
use Rattle.sip_lex.specs.Line.{line_at_cut}
use Rattle.sip_lex.specs.Pieces.{pieces_behind}
use Rattle.sip_lex.proofs.laws.Splits.{pieces-cut}
use Rattle.sip_text.specs.inner.Heads.{Valued, front_header, put}
use Rattle.sip_text.specs.Reading.{Tail, grouped, headers_at, lines_at, tail_at}

abbrev Cut : Type 0
Cut = List ℕ × Option (List ℕ)

abbrev pub Front : Type 0
Front = Option (List ℕ × List ℕ)

-- ---- lines by cuts

abbrev pub lines_front : Front → Option Lines
lines_front None = None
lines_front (Some p) = lines_from (Some p.0) (lines_at (pieces 10 p.1)) (pieces 10 p.1)

at_cut : (c : Cut) → lines_at (c.0 ∷ pieces_behind 10 c.1) ≡ lines_front (line_at_cut c)
unfolding lines_at
at_cut c = grind (arith, pieces-cut)

pub lines_at-line : (bs : List ℕ) → lines_at (pieces 10 bs) ≡ lines_front (line_at bs)
lines_at-line bs = ap lines_at (pieces-cut 10 bs) ∙ at_cut (cut (is 10) bs)

-- ---- the first line of a text, and what is behind it

abbrev pub tail_with : Option HeaderText → Tail → Option Tail
tail_with None t = None
tail_with (Some h) t = Some (record { parts = []; headers = h ∷ t.headers; rest = t.rest })

abbrev pub tail_before : List ℕ → Option Tail → Option Tail
tail_before line None = None
tail_before line (Some t) = cond (begins_with_space line) (Some (record { parts = trim line ∷ t.parts; headers = t.headers; rest = t.rest })) (tail_with (header_of line t.parts) t)

abbrev pub tail_after : List ℕ → List ℕ → Option Tail
tail_after [] after = Some (record { parts = []; headers = []; rest = pieces 10 after })
tail_after (b ∷ bs) after = tail_before (b ∷ bs) (tail_at after)

abbrev pub tail_front : Front → Option Tail
tail_front None = None
tail_front (Some p) = tail_after p.0 p.1

before : (line : List ℕ) (g : Option Group) (rest : List (List ℕ)) → tail_of_group (before_group line g) rest ≡ tail_before line (tail_of_group g rest)
before line g rest = grind arith

fronted : (front : Front) → tail_of_lines (lines_front front) ≡ tail_front front
unfolding tail_at grouped
fronted front = grind arith

pub tail_at-line : (bs : List ℕ) → tail_at bs ≡ tail_front (line_at bs)
unfolding tail_at
tail_at-line bs = ap tail_of_lines (lines_at-line bs) ∙ fronted (line_at bs)

-- ---- space at the front

front_space : (line after : List ℕ) → begins_with_space (ended line ++ after) ≡ begins_with_space line
front_space line after = grind arith

-- ---- a value and the lines that continue it

pub value_ends-early : (value bs : List ℕ) (all : Option Valued) → None ≡ line_at bs → continued value (tail_at bs) ≡ all → all ≡ None
value_ends-early value bs all e h = sym h ∙ ap (continued value) (tail_at-line bs ∙ ap tail_front (sym e))

part_step : (value line : List ℕ) (t : Option Tail) → begins_with_space line ≡ true → continued value (tail_before line t) ≡ continued (value ++ 32 ∷ trim line) t
part_step value line t e = grind (arith, common_steps)

value_goes_on : (value longer bs line after : List ℕ) (all : Option Valued) → Some (line, after) ≡ line_at bs → begins_with_space bs ≡ true → longer ≡ value ++ 32 ∷ trim line → continued value (tail_at bs) ≡ all → continued longer (tail_at after) ≡ all
value_goes_on value longer bs line after all e space l h = grind (arith, common_steps, tail_at-line)

part_same : (value part : List ℕ) (t : Option Tail) → continued (with_part value part) t ≡ continued (value ++ 32 ∷ part) t
part_same value part t = grind (arith, trim-space)

pub value_with_part : (value longer bs line after : List ℕ) (all : Option Valued) → Some (line, after) ≡ line_at bs → begins_with_space bs ≡ true → longer ≡ with_part value (trim line) → continued value (tail_at bs) ≡ all → continued longer (tail_at after) ≡ all
value_with_part value longer bs line after all e space l h = search (rules, part_same, value_goes_on)

pub part_front : (value part : List ℕ) → begins_with_space value ≡ false → begins_with_space part ≡ false → begins_with_space (with_part value part) ≡ false
part_front value part h k = grind arith

header_end : (value : List ℕ) (h : Option HeaderText) (t : Tail) → continued value (tail_with h t) ≡ valued (trim value) (closed (tail_with h t))
header_end value h t = grind (arith, common_steps)

line_end : (value line : List ℕ) (t : Option Tail) → begins_with_space line ≡ false → continued value (tail_before line t) ≡ valued (trim value) (closed (tail_before line t))
line_end value line t e = grind (arith, header_end)

pub value_ends : (value bs : List ℕ) (all : Option Valued) → begins_with_space bs ≡ false → continued value (tail_at bs) ≡ all → all ≡ valued (trim value) (headers_at bs)
unfolding headers_at
value_ends value bs all space h = grind (arith, common_steps, tail_at-line)

-- ---- a header

-- a line that begins with space is no header
take_token : (n b : ℕ) (bs : List ℕ) → is_space b ≡ true → is_token (take n (b ∷ bs)) ≡ false
take_token n b bs h = grind arith

cut_space : (b : ℕ) (c : Cut) (parts : List (List ℕ)) → is_space b ≡ true → header_of_cut (b ∷ c.0, c.1) parts ≡ None
cut_space b c parts h = grind (arith, take_token)

pub space_no_header : (line : List ℕ) (parts : List (List ℕ)) → begins_with_space line ≡ true → header_of line parts ≡ None
space_no_header line parts h = grind (arith, cut_space)

closed_before : (line : List ℕ) (t : Option Tail) → closed (tail_before line t) ≡ front_header line t
closed_before line t = grind (arith, space_no_header)

closed_after : (line after : List ℕ) → (length line ≡ 0 → ⊥) → closed (tail_after line after) ≡ front_header line (tail_at after)
closed_after line after full = grind (arith, closed_before)

headers_at-line : (bs : List ℕ) → headers_at bs ≡ closed (tail_front (line_at bs))
unfolding headers_at
headers_at-line bs = ap closed (tail_at-line bs)

pub headers_end-early : (hs : List HeaderText) (bs : List ℕ) (all : Option Headers) → None ≡ line_at bs → prepended hs (headers_at bs) ≡ all → or_bad all ≡ Err BadHeader
headers_end-early hs bs all e h = ap or_bad (sym h ∙ ap (prepended hs) (headers_at-line bs ∙ ap (λ (f : Front). closed (tail_front f)) (sym e)))

pub headers_end : (hs : List HeaderText) (bs line after : List ℕ) (all : Option Headers) → Some (line, after) ≡ line_at bs → length line ≡ 0 → prepended hs (headers_at bs) ≡ all → or_bad all ≡ Ok (hs, pieces 10 after)
headers_end hs bs line after all e empty h = grind (arith, common_steps, headers_at-line)

full_front : (bs line after : List ℕ) → Some (line, after) ≡ line_at bs → (length line ≡ 0 → ⊥) → headers_at bs ≡ front_header line (tail_at after)
full_front bs line after e full = headers_at-line bs ∙ ap (λ (f : Front). closed (tail_front f)) (sym e) ∙ closed_after line after full

pub headers_go_on : (hs longer : List HeaderText) (h : HeaderText) (bs line after rest : List ℕ) (all : Option Headers) → Some (line, after) ≡ line_at bs → (length line ≡ 0 → ⊥) → front_header line (tail_at after) ≡ put h (headers_at rest) → longer ≡ hs ++ h ∷ [] → prepended hs (headers_at bs) ≡ all → prepended longer (headers_at rest) ≡ all
headers_go_on hs longer h bs line after rest all e full front l whole = grind (arith, common_steps, full_front)

pub headers_fail : (hs : List HeaderText) (bs line after : List ℕ) (f : Option Fault) (all : Option Headers) → Some (line, after) ≡ line_at bs → (length line ≡ 0 → ⊥) → FailsAs f (or_bad (front_header line (tail_at after))) → prepended hs (headers_at bs) ≡ all → FailsAs f (or_bad all)
headers_fail hs bs line after f all e full h whole = grind (arith, full_front)
