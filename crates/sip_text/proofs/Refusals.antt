-- Texts that are refused, by the relation and by the function.
use Rattle.sip_text.proofs.Common.{◌≡◌, ◌≢◌, ℕ, ◌<◌, cond, eqb, List, [], ◌∷◌, ◌++◌, length, get_or, Option, Some, None, Result, Ok, Err, refl, sym, ap, subst, ◌∙◌, inl, inr, arith, ◌&&◌, join_with_byte, cases_Bool, cond_both}
use Rattle.sip_text.proofs.Common.{cond-true, cond-false, false≢true, ended, line_at, pieces, line_at-again, line_at-takes, BodyLength, Bytes, Wrong, MandatoryHeader, cseq_fits, missing, said_length}
use Rattle.sip_text.proofs.Common.{after_headers, after_line, after_start, head_of, if_present, Fault, BadStart, BadHeader, Lacks, BadVersion, BadStatus, Short, BadCSeq, BadLength, Headers, headers_at, skip_line_ends, start_of, HasStartFault, HeaderText}
use Rattle.sip_text.proofs.Common.{MessageText, StartText}
use Rattle.sip_text.specs.Message.{body_at, checked, read_at}
use Rattle.sip_text.specs.Refusal.{Begins, FirstLine, HasFields, HasHead, HasHeaders, IsRefused}
use Rattle.sip_text.proofs.laws.Good.{found, some_is}
use Rattle.sip_text.proofs.Heads.{checked_is}
use Rattle.sip_text.proofs.Joins.{join_pieces}
use Rattle.sip_text.proofs.StartAgain.{start_again}
use Rattle.sip_text.proofs.StartFaults.{fault_again, fault_found}
use Rattle.sip_text.proofs.StartLines.{done, start_found}
use Rattle.sip_text.proofs.laws.Whole.{headers_found, headers_read, skip_blank, skip_found, skip_line}

abbrev failed : {A : Type 0} → Fault → Result A Fault
failed f = Err f

same_fault : (f g : Fault) → failed {A = MessageText} f ≡ failed g → f ≡ g
same_fault f g e = cc

no_fault : (m : MessageText) (f : Fault) (P : Type 0) → done m ≡ failed f → P
no_fault m f P e = absurd cc

-- ---- the first line

skip_kept : (bs rest : List ℕ) → skip_line_ends bs ≡ 13 ∷ 10 ∷ rest → ⊥
skip_kept [] rest h = absurd cc
skip_kept (b ∷ []) rest h = absurd cc
skip_kept (b ∷ c ∷ bs) rest h =
    cond_both (eqb b 13 && eqb c 10) (skip_line_ends bs) (b ∷ c ∷ bs) (λ (r : List ℕ). r ≡ 13 ∷ 10 ∷ rest → ⊥)
    (λ e k. skip_kept bs rest k)
    (λ e k. let first : b ≡ 13 = ap (λ (x : List ℕ). get_or x 0 0) k in let second : c ≡ 10 = ap (λ (x : List ℕ). get_or x 1 0) k in false≢true (sym e ∙ ap (λ n. eqb n 13 && eqb c 10) first ∙ ap (λ n. eqb n 10) second))
    h

not_empty : (text line rest : List ℕ) → skip_line_ends text ≡ ended line ++ rest → line ≢ []
not_empty text line rest whole none = skip_kept text rest (whole ∙ ap (λ (x : List ℕ). ended x ++ rest) none)

first_found : (text line rest : List ℕ) → line_at (skip_line_ends text) ≡ Some (line, rest) → FirstLine text line rest
first_found text line rest at =
    let t = line_at-takes (skip_line_ends text) line rest at in
    let blank = skip_found text in
    grind (arith, not_empty)

first_read : (text line rest : List ℕ) → FirstLine text line rest → line_at (skip_line_ends text) ≡ Some (line, rest)
first_read text line rest f = grind (arith, skip_blank, skip_line, line_at-again)

-- ---- each fault has its cause

start_line_refused : (text line rest : List ℕ) (f : Fault) → FirstLine text line rest → HasStartFault line f → IsRefused text f
start_line_refused text line rest BadStart first fault = λ l r other.
    let same = some_is (line, rest) (l, r) (sym (first_read text line rest first) ∙ first_read text l r other) in
    subst (λ (p : List ℕ × List ℕ). HasStartFault p.0 BadStart) same fault
start_line_refused text line rest BadVersion first fault = (line, rest, first, fault)
start_line_refused text line rest BadStatus first fault = (line, rest, first, fault)
start_line_refused text line rest BadHeader first fault = absurd fault
start_line_refused text line rest (Lacks name) first fault = absurd fault
start_line_refused text line rest (Short m) first fault = absurd fault
start_line_refused text line rest BadCSeq first fault = absurd fault
start_line_refused text line rest BadLength first fault = absurd fault

body_refused : (text : List ℕ) (start : StartText) (hs : List HeaderText) (rest : List ℕ) (said : BodyLength) (f : Fault) → HasHead text start hs rest → HasFields start hs → said_length hs ≡ said → body_at start hs rest said ≡ Err f → IsRefused text f
unfolding body_at
body_refused text start hs rest said f head fields at e = grind arith

fields_refused : (text : List ℕ) (start : StartText) (hs : List HeaderText) (rest : List ℕ) (o : Option MandatoryHeader) (f : Fault) → HasHead text start hs rest → missing hs ≡ o → if_present o (cond (cseq_fits start hs) (body_at start hs rest (said_length hs)) (Err BadCSeq)) ≡ Err f → IsRefused text f
fields_refused text start hs rest (Some name) f head at e = subst (IsRefused text) (same_fault (Lacks name) f e) (start, hs, rest, head, at)
fields_refused text start hs rest None f head at e =
    elim (cases_Bool (cseq_fits start hs)) [
      | inl fits ↦ body_refused text start hs rest (said_length hs) f head (record { needed = at; cseq = fits }) refl (sym (cond-true _ _ _ fits) ∙ e)
      | inr other ↦ subst (IsRefused text) (same_fault BadCSeq f (sym (cond-false _ _ _ other) ∙ e)) (start, hs, rest, head, at, other)
    ]

checked_refused : (text : List ℕ) (start : StartText) (hs : List HeaderText) (rest : List ℕ) (f : Fault) → HasHead text start hs rest → checked start hs rest ≡ Err f → IsRefused text f
unfolding checked
checked_refused text start hs rest f head e = fields_refused text start hs rest (missing hs) f head refl e

has_headers : (text : List ℕ) (hs : List HeaderText) (rest : List ℕ) → HasHeaders text hs rest → headers_at text ≡ Some (hs, pieces 10 rest)
has_headers text hs rest h = ap headers_at h.whole ∙ headers_read h.lines hs rest h.are_full h.headers

headers_refused : (text : List ℕ) (start : StartText) (rest : List ℕ) (o : Option Headers) (f : Fault) → Begins text start rest → headers_at rest ≡ o → after_headers start o ≡ Err f → IsRefused text f
headers_refused text start rest None f begins at e =
    subst (IsRefused text) (same_fault BadHeader f e) (start, rest, begins, λ hs body h. let wrong : None ≡ found (hs, pieces 10 body) = sym at ∙ has_headers rest hs body h in absurd cc)
headers_refused text start rest (Some x) f begins at e =
    let are = headers_found rest x at in
    let behind : join_with_byte 10 x.1 ≡ are.rest = ap (join_with_byte 10) (sym are.behind) ∙ join_pieces are.rest in
    let head : HasHead text start x.0 are.rest = record { behind = rest; begins = begins; headers = record { lines = are.lines; whole = are.whole; are_full = are.are_full; headers = are.headers } } in
    checked_refused text start x.0 are.rest f head (sym (ap (checked start x.0) behind) ∙ e)

start_refused : (text line rest : List ℕ) (r : Result StartText Fault) (f : Fault) → FirstLine text line rest → start_of line ≡ r → after_start r rest ≡ Err f → IsRefused text f
start_refused text line rest (Ok start) f first at e = headers_refused text start rest (headers_at rest) f (record { line = line; first = first; start_is = start_found line start at }) refl e
start_refused text line rest (Err g) f first at e = subst (IsRefused text) (same_fault g f e) (start_line_refused text line rest g first (fault_found line g at))

line_refused : (text : List ℕ) (o : Option (List ℕ × List ℕ)) (f : Fault) → line_at (skip_line_ends text) ≡ o → after_line o ≡ Err f → IsRefused text f
line_refused text None f at e = subst (IsRefused text) (same_fault BadStart f e) (λ line rest first. let wrong : None ≡ found (line, rest) = sym at ∙ first_read text line rest first in absurd cc)
line_refused text (Some (line, rest)) f at e = start_refused text line rest (start_of line) f (first_found text line rest at) refl e

pub refused_found : (text : List ℕ) (f : Fault) → read_at text ≡ Err f → IsRefused text f
unfolding read_at
refused_found text f e = line_refused text (line_at (skip_line_ends text)) f refl e

-- ---- and each cause gives its fault

no_start_line : (text : List ℕ) (o : Option (List ℕ × List ℕ)) → IsRefused text BadStart → line_at (skip_line_ends text) ≡ o → after_line o ≡ Err BadStart
no_start_line text None h at = refl
no_start_line text (Some (line, rest)) h at = ap (λ (x : Result StartText Fault). after_start x rest) (fault_again line BadStart (h line rest (first_found text line rest at)))

first_again : (text line rest : List ℕ) (f : Fault) → FirstLine text line rest → start_of line ≡ Err f → read_at text ≡ Err f
unfolding read_at
first_again text line rest f first at = ap after_line (first_read text line rest first) ∙ ap (λ (x : Result StartText Fault). after_start x rest) at

begins_again : (text : List ℕ) (start : StartText) (rest : List ℕ) → Begins text start rest → read_at text ≡ after_headers start (headers_at rest)
unfolding read_at
begins_again text start rest b = ap after_line (first_read text b.line rest b.first) ∙ ap (λ (x : Result StartText Fault). after_start x rest) (start_again b.line start b.start_is)

no_headers : (start : StartText) (rest : List ℕ) (o : Option Headers) → ((hs : List HeaderText) (body : List ℕ) → HasHeaders rest hs body → ⊥) → headers_at rest ≡ o → after_headers start o ≡ Err BadHeader
no_headers start rest None none at = refl
no_headers start rest (Some x) none at = let are = headers_found rest x at in absurd (none x.0 are.rest (record { lines = are.lines; whole = are.whole; are_full = are.are_full; headers = are.headers }))

head_again : (text : List ℕ) (start : StartText) (hs : List HeaderText) (rest : List ℕ) → HasHead text start hs rest → read_at text ≡ checked start hs rest
head_again text start hs rest h = begins_again text start h.behind h.begins ∙ ap (after_headers start) (has_headers h.behind hs rest h.headers) ∙ ap (checked start hs) (join_pieces rest)

abbrev fields_read : StartText → List HeaderText → List ℕ → Option MandatoryHeader → Result MessageText Fault
fields_read start hs rest o = if_present o (cond (cseq_fits start hs) (body_at start hs rest (said_length hs)) (Err BadCSeq))

checked_by : (start : StartText) (hs : List HeaderText) (rest : List ℕ) (o : Option MandatoryHeader) → missing hs ≡ o → checked start hs rest ≡ fields_read start hs rest o
unfolding checked
checked_by start hs rest o at = ap (fields_read start hs rest) at

body_again : (start : StartText) (hs : List HeaderText) (rest : List ℕ) (said : BodyLength) → HasFields start hs → said_length hs ≡ said → checked start hs rest ≡ body_at start hs rest said
body_again start hs rest said fields at = checked_is start hs rest fields.needed fields.cseq ∙ ap (body_at start hs rest) at

body_wrong : (start : StartText) (hs : List HeaderText) (rest : List ℕ) → body_at start hs rest Wrong ≡ Err BadLength
unfolding body_at
body_wrong start hs rest = refl

body_short : (start : StartText) (hs : List HeaderText) (rest : List ℕ) (n : ℕ) (m : MessageText) → length rest < n → m ≡ head_of start hs → body_at start hs rest (Bytes n) ≡ Err (Short m)
unfolding body_at
body_short start hs rest n m fewer same = grind arith

pub refused_again : (text : List ℕ) (f : Fault) → IsRefused text f → read_at text ≡ Err f
unfolding read_at
refused_again text BadStart h = no_start_line text (line_at (skip_line_ends text)) h refl
refused_again text BadVersion h = first_again text h.0 h.1 BadVersion h.2 (fault_again h.0 BadVersion h.3)
refused_again text BadStatus h = first_again text h.0 h.1 BadStatus h.2 (fault_again h.0 BadStatus h.3)
refused_again text BadHeader h = begins_again text h.0 h.1 h.2 ∙ no_headers h.0 h.1 (headers_at h.1) h.3 refl
refused_again text (Lacks name) h = head_again text h.0 h.1 h.2 h.3 ∙ checked_by h.0 h.1 h.2 (Some name) h.4
refused_again text BadCSeq h = head_again text h.0 h.1 h.2 h.3 ∙ checked_by h.0 h.1 h.2 None h.4 ∙ cond-false _ _ _ h.5
refused_again text BadLength h = head_again text h.0 h.1 h.2 h.3 ∙ body_again h.0 h.1 h.2 Wrong h.4 h.5 ∙ body_wrong h.0 h.1 h.2
refused_again text (Short m) h = let s = h.5 in head_again text h.0 h.1 h.2 h.3 ∙ body_again h.0 h.1 h.2 (Bytes s.said) h.4 s.said_is ∙ body_short h.0 h.1 h.2 s.said m s.fewer s.head
