-- Whole texts, by the relation and by the function.
use Rattle.sip_text.proofs.Common.{◌≡◌, ◌≢◌, ℕ, zero, suc, ◌≤◌, true, cond, eqb, leb, List, [], ◌∷◌, ◌++◌, length, map, take, drop, Option, Some, None, Result, Ok, Err, refl, sym, ap, subst, ◌∙◌, inl, inr, arith, length-take, ◌&&◌, flat_map}
use Rattle.sip_text.proofs.Common.{join_with_byte, AllByRecursion, and_parts, cases_Bool, cond_both, cond-true, cond-false, eqb-true, leb-true, ne_eqb, take-append-drop, trim, IsLine, ended, line_at, pieces, line_at-again}
use Rattle.sip_text.proofs.Common.{line_at-takes, BodyLength, Unsaid, Bytes, Wrong, MandatoryHeader, cseq_fits, missing, said_length, AreHeaders, IsBody, IsFull, IsText, blank_lines, after_headers, after_line, after_start, head_of, if_present, Fault, BadCSeq}
use Rattle.sip_text.proofs.Common.{BadHeader, BadLength, BadStart, Group, Headers, Lines, Short, closed, lines_at, skip_line_ends, tail_of_group, tail_of_lines, HeaderText, MessageText, StartText, common_steps, rules}
use Rattle.sip_text.specs.Message.{body_at, checked, read_at}
use Rattle.sip_text.specs.Reading.{grouped, headers_at, start_of, tail_at}
use Rattle.sip_text.proofs.Groups.{grouped_found, headers_again}
use Rattle.sip_text.proofs.Joins.{join_pieces}
use Rattle.sip_text.proofs.StartAgain.{start_again}
use Rattle.sip_text.proofs.StartLines.{done, ok_is, start_found}
use Rattle.sip_text.proofs.TextLines.{Split, lines_again, lines_take}

abbrev Read : Type 0
Read = Result MessageText Fault

-- ---- empty lines at the front

pub skip_blank : (n : ℕ) (bs : List ℕ) → skip_line_ends (blank_lines n ++ bs) ≡ skip_line_ends bs
skip_blank zero bs = refl
skip_blank (suc n) bs = skip_blank n bs

keep_first : (b c : ℕ) (bs : List ℕ) → (b ≢ 13) → skip_line_ends (b ∷ c ∷ bs) ≡ b ∷ c ∷ bs
keep_first b c bs h = cond-false _ _ _ (ap (λ x. x && eqb c 10) (ne_eqb b 13 h))

pub skip_line : (line rest : List ℕ) → IsLine line → (line ≢ []) → skip_line_ends (ended line ++ rest) ≡ ended line ++ rest
skip_line [] rest h full = absurd (full refl)
skip_line (b ∷ []) rest h full = keep_first b 13 (10 ∷ rest) h.no_cr.0
skip_line (b ∷ c ∷ bs) rest h full = keep_first b c (ended bs ++ rest) h.no_cr.0

skip_pair : (b c : ℕ) (bs : List ℕ) → (eqb b 13 && eqb c 10) ≡ true → (n : ℕ) × (bs ≡ blank_lines n ++ skip_line_ends bs) → (n : ℕ) × (b ∷ c ∷ bs ≡ blank_lines n ++ skip_line_ends bs)
skip_pair b c bs e h =
    let both = and_parts (eqb b 13) (eqb c 10) e in
    (suc h.0, ap (λ n. n ∷ c ∷ bs) (eqb-true b 13 both.0) ∙ ap (λ n. 13 ∷ n ∷ bs) (eqb-true c 10 both.1) ∙ ap (λ (x : List ℕ). 13 ∷ 10 ∷ x) h.1)

pub skip_found : (bs : List ℕ) → (n : ℕ) × (bs ≡ blank_lines n ++ skip_line_ends bs)
skip_found [] = (0, refl)
skip_found (b ∷ []) = (0, refl)
skip_found (b ∷ c ∷ bs) =
    cond_both (eqb b 13 && eqb c 10) (skip_line_ends bs) (b ∷ c ∷ bs) (λ (r : List ℕ). (n : ℕ) × (b ∷ c ∷ bs ≡ blank_lines n ++ r))
    (λ e. skip_pair b c bs e (skip_found bs))
    (λ e. (0, refl))

-- ---- what is spelled so is read

body_again : (m : MessageText) (rest : List ℕ) (said : BodyLength) → IsBody said rest m.body → body_at m.start m.headers rest said ≡ Ok m
unfolding body_at
body_again m rest said h = grind (arith, common_steps)

pub headers_read : (lines : List (List ℕ)) (hs : List HeaderText) (rest : List ℕ) → AllByRecursion IsFull lines → AreHeaders lines hs → headers_at (flat_map ended lines ++ (ended [] ++ rest)) ≡ Some (hs, pieces 10 rest)
unfolding headers_at tail_at
headers_read lines hs rest full are = grind (arith, lines_again, headers_again)

checked_again : (m : MessageText) (rest : List ℕ) → missing m.headers ≡ None → cseq_fits m.start m.headers ≡ true → IsBody (said_length m.headers) rest m.body → checked m.start m.headers rest ≡ Ok m
unfolding checked
checked_again m rest needed cseq body = grind (arith, body_again)

no_start : (s : StartText) (line : List ℕ) → start_of line ≡ Ok s → (line ≢ [])
unfolding start_of
no_start s line e none = let wrong : Err BadStart ≡ done s = sym (ap start_of none) ∙ e in absurd cc

pub text_read : (text : List ℕ) (m : MessageText) → IsText text m → read_at text ≡ Ok m
unfolding read_at
text_read text m t =
    let tail = flat_map ended t.lines ++ (ended [] ++ t.rest) in
    let start = start_again t.line m.start t.start in
    let front : skip_line_ends text ≡ ended t.line ++ tail = ap skip_line_ends t.whole ∙ skip_blank t.blank (ended t.line ++ tail) ∙ skip_line t.line tail t.is_line (no_start m.start t.line start) in
    grind (arith, line_at-again, headers_read, join_pieces, checked_again)

-- ---- and what is read is spelled so

pub record HeadersAre (text : List ℕ) (x : Headers) : Type 0 where
  pub lines : List (List ℕ)
  pub rest : List ℕ
  pub whole : text ≡ flat_map ended lines ++ (ended [] ++ rest)
  pub are_full : AllByRecursion IsFull lines
  pub headers : AreHeaders lines x.0
  pub behind : pieces 10 rest ≡ x.1

-- no part continues what isn't there
own_headers : (lines more others : List (List ℕ)) (hs : List HeaderText) → lines ≡ more ++ others → [] ≡ map trim more → AreHeaders others hs → AreHeaders lines hs
own_headers lines [] others hs e none are = subst (λ (x : List (List ℕ)). AreHeaders x hs) (sym e) are
own_headers lines (l ∷ more) others hs e none are = absurd cc

length_front : (n : ℕ) (bs : List ℕ) → n ≤ length bs → length (take n bs) ≡ n
length_front n bs h = length-take n bs ∙ omega arith

group_are : (text : List ℕ) (lines : Lines) (o : Option Group) (x : Headers) → Split text lines → grouped lines.0 ≡ o → closed (tail_of_group o lines.1) ≡ Some x → HeadersAre text x
group_are text lines None x s at e = absurd cc
group_are text lines (Some (part ∷ parts, hs)) x s at e = absurd cc
group_are text lines (Some ([], hs)) x s at e =
    let g = grouped_found lines.0 ([], hs) at in
    grind (arith, own_headers)

lines_are : (text : List ℕ) (o : Option Lines) (x : Headers) → lines_at (pieces 10 text) ≡ o → closed (tail_of_lines o) ≡ Some x → HeadersAre text x
lines_are text None x at e = absurd cc
lines_are text (Some lines) x at e = group_are text lines (grouped lines.0) x (lines_take text lines at) refl e

pub headers_found : (text : List ℕ) (x : Headers) → headers_at text ≡ Some x → HeadersAre text x
unfolding headers_at tail_at
headers_found text x e = lines_are text (lines_at (pieces 10 text)) x refl e

pub record Checked (start : StartText) (hs : List HeaderText) (rest : List ℕ) (m : MessageText) : Type 0 where
  pub start_is : m.start ≡ start
  pub headers_are : m.headers ≡ hs
  pub needed : missing hs ≡ None
  pub cseq : cseq_fits start hs ≡ true
  pub body : IsBody (said_length hs) rest m.body

bad : (f : Fault) (m : MessageText) (P : Type 0) → Err f ≡ done m → P
bad f m P e = absurd cc

body_found : (start : StartText) (hs : List HeaderText) (rest : List ℕ) (said : BodyLength) (m : MessageText) → body_at start hs rest said ≡ Ok m → (m.start ≡ start) × ((m.headers ≡ hs) × IsBody said rest m.body)
unfolding body_at
body_found start hs rest Unsaid m e = grind arith
body_found start hs rest Wrong m e = bad BadLength m _ e
body_found start hs rest (Bytes n) m e =
    elim (cases_Bool (leb n (length rest))) [
      | inl fits ↦
          let same = ok_is (record { start = start; headers = hs; body = take n rest }) m (sym (cond-true _ _ _ fits) ∙ e) in
          let text : m.body ≡ take n rest = ap (λ (x : MessageText). x.body) (sym same) in
          let long : n ≤ length rest = leb-true n (length rest) fits in
          (ap (λ (x : MessageText). x.start) (sym same), (ap (λ (x : MessageText). x.headers) (sym same), (drop n rest, sym (take-append-drop n rest) ∙ ap (λ (x : List ℕ). x ++ drop n rest) (sym text), ap length text ∙ length_front n rest long)))
      | inr short ↦ bad (Short (head_of start hs)) m _ (sym (cond-false _ _ _ short) ∙ e)
    ]

present_found : (o : Option MandatoryHeader) (r : Read) (m : MessageText) → if_present o r ≡ Ok m → (o ≡ None) × (r ≡ Ok m)
present_found o r m e = grind arith

pub checked_found : (start : StartText) (hs : List HeaderText) (rest : List ℕ) (m : MessageText) → checked start hs rest ≡ Ok m → Checked start hs rest m
unfolding checked
checked_found start hs rest m e =
    let p = present_found (missing hs) (cond (cseq_fits start hs) (body_at start hs rest (said_length hs)) (Err BadCSeq)) m e in
    elim (cases_Bool (cseq_fits start hs)) [
      | inl fits ↦
          let b = body_found start hs rest (said_length hs) m (sym (cond-true _ _ _ fits) ∙ p.1) in
          record { start_is = b.0; headers_are = b.1.0; needed = p.0; cseq = fits; body = b.1.1 }
      | inr none ↦ bad BadCSeq m _ (sym (cond-false _ _ _ none) ∙ p.1)
    ]

abbrev with_body : StartText → List HeaderText → List ℕ → MessageText
with_body start hs body = record { start = start; headers = hs; body = body }

all_found : (text line rest : List ℕ) (start : StartText) (x : Headers) (m : MessageText) → line_at (skip_line_ends text) ≡ Some (line, rest) → start_of line ≡ Ok start → HeadersAre rest x → Checked start x.0 (join_with_byte 10 x.1) m → IsText text m
all_found text line rest start x m at read are ok =
    let t = line_at-takes (skip_line_ends text) line rest at in
    let blank = skip_found text in
    grind (arith, join_pieces, start_found)

after_headers_found : (text line rest : List ℕ) (start : StartText) (o : Option Headers) (m : MessageText) → line_at (skip_line_ends text) ≡ Some (line, rest) → start_of line ≡ Ok start → headers_at rest ≡ o → after_headers start o ≡ Ok m → IsText text m
after_headers_found text line rest start None m at read hs e = bad BadHeader m _ e
after_headers_found text line rest start (Some x) m at read hs e = all_found text line rest start x m at read (headers_found rest x hs) (checked_found start x.0 (join_with_byte 10 x.1) m e)

after_start_found : (text line rest : List ℕ) (r : Result StartText Fault) (m : MessageText) → line_at (skip_line_ends text) ≡ Some (line, rest) → start_of line ≡ r → after_start r rest ≡ Ok m → IsText text m
after_start_found text line rest r m at read e = search (rules, bad, after_headers_found)

after_line_found : (text : List ℕ) (o : Option (List ℕ × List ℕ)) (m : MessageText) → line_at (skip_line_ends text) ≡ o → after_line o ≡ Ok m → IsText text m
after_line_found text o m at e = search (rules, bad, after_start_found)

pub text_found : (text : List ℕ) (m : MessageText) → read_at text ≡ Ok m → IsText text m
unfolding read_at
text_found text m e = after_line_found text (line_at (skip_line_ends text)) m refl e
