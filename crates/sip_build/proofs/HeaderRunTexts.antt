-- Header lines in runs, as lines and as text.
use Rattle.sip_build.proofs.Common.{◌≡◌, ◌+◌, ◌-◌, ◌^◌, ◌<◌, ◌≤◌, arith, Some, None, OnOk, length, subst, ℕ, List, [], ◌∷◌, ◌++◌, map, refl, sym, ap, ◌∙◌, append_assoc, Bor, filter, flat_map, flat_map-map, codes, if◌then◌else◌, cases_Bool}
use Rattle.sip_build.proofs.Common.{cond-false, cond-true, ended, same_name, HeaderText, MessageText, Request, header_text, saturated, start_line, Uri, request_uri, BranchName, Own, lines_among, own_via, line, texts, lines_text, challenge_line, view_line, view_lines}
use Rattle.sip_build.proofs.Common.{contact_lines, is_other, lines_of, start_of, tail_text, under, Result, OnErr, flat_map-append, common_steps}
use Rattle.std.proofs.Common.{min}
use Rattle.std.specs.Prelude.{IsOk}
use Rattle.fork_model.specs.Table as table
use Rattle.sip_text.specs.Name.{values_of}
use Rattle.sip_text.specs.Text.{spelling}
use Rattle.sip_text.specs.declared.parts.HeaderLine.{HeaderLine}
use Rattle.sip_build.specs.declared.runs.HeaderRun.{HeaderRun}
use Rattle.sip_build.specs.declared.made_text.Front.{Front}
use Rattle.sip_build.specs.inner.HeaderRuns.{all_lines, made_of}
use Rattle.sip_build.specs.inner.ToTarget.{request_to}

-- what each part's lines are as text, and the text of all lines
pub texts-of-lines : {X : Type 0} (f : X → List HeaderText) (xs : List X) → flat_map (λ x. lines_text (f x)) xs ≡ lines_text (flat_map f xs)
texts-of-lines f [] = refl
texts-of-lines f (x ∷ xs) = ap (λ (ys : List ℕ). lines_text (f x) ++ ys) (texts-of-lines f xs) ∙ sym (flat_map-append header_text (f x) (flat_map f xs))

pub contacts-text : (ts : List (Bor (List ℕ))) → flat_map (λ (t : Bor (List ℕ)). header_text (line (codes "Contact") t.now)) ts ≡ lines_text (contact_lines (texts ts))
contacts-text [] = refl
contacts-text (t ∷ ts) = ap (λ (ys : List ℕ). header_text (line (codes "Contact") t.now) ++ ys) (contacts-text ts)

pub challenges-text : (cs : List table.Challenge) → flat_map (λ c. header_text (challenge_line c)) cs ≡ lines_text (map challenge_line cs)
challenges-text cs = sym (flat_map-map header_text challenge_line cs)

pub further-text : (fs : List HeaderLine) → flat_map (λ f. header_text (view_line f)) fs ≡ lines_text (view_lines fs)
further-text fs = sym (flat_map-map header_text view_line fs)

-- the spelling of a message whose header lines come in runs
pub spelling_made : {A : Type 0} (front : Front) (runs : List (HeaderRun A)) (body : List ℕ) → spelling (made_of front runs body) ≡ ended (start_line (start_of front)) ++ (flat_map (λ g. lines_text (lines_of g)) runs ++ (ended [] ++ body))
spelling_made front runs body = ap (λ (x : List ℕ). ended (start_line (start_of front)) ++ (x ++ (ended [] ++ body))) (sym (texts-of-lines lines_of runs))

-- ---- another name of the text that was appended

pub ok-as : {E : Type 0} (r : Result Unit E) (old new t s : List ℕ) → OnOk r (new ≡ old ++ t) → t ≡ s → OnOk r (new ≡ old ++ s)
ok-as r old new t s h e = subst (λ (x : List ℕ). OnOk r (new ≡ old ++ x)) e h

-- ---- what is picked of header lines

pub named-lines : (name : List ℕ) (hs : List HeaderText) → flat_map (λ h. under h.value (if same_name name h.name then Some h.name else None)) hs ≡ lines_among name hs
named-lines name [] = refl
named-lines name (h ∷ hs) = grind (arith, named-lines name hs)

pub other-lines : (name : List ℕ) (hs : List HeaderText) → flat_map (λ h. under h.value (if same_name name h.name then None else Some h.name)) hs ≡ filter (is_other name) hs
other-lines name [] = refl
other-lines name (h ∷ hs) = grind (arith, other-lines name hs)

pub renamed-lines : (name other : List ℕ) (hs : List HeaderText) → flat_map (λ h. under h.value (if same_name name h.name then Some other else None)) hs ≡ map (line other) (values_of name hs)
unfolding values_of
renamed-lines name other [] = refl
renamed-lines name other (h ∷ hs) = grind (arith, common_steps, cases_Bool (same_name name h.name), renamed-lines name other hs, cond-true, cond-false)

-- ---- a message that is another by its parts

pub spelled-as : {A : Type 0} (front : Front) (runs : List (HeaderRun A)) (body : List ℕ) (m : MessageText) → start_of front ≡ m.start → all_lines runs ≡ m.headers → body ≡ m.body → spelling (made_of front runs body) ≡ spelling m
spelled-as front runs body m s h b = grind arith

pub room-as : {E : Type 0} (r : Result Unit E) (room len : ℕ) (t s : List ℕ) → OnErr r (room < len + length t) → t ≡ s → len + length s ≤ room → IsOk r
room-as r room len t s full e fits = grind arith

-- ---- a start line and what stands behind it

pub behind-full : (old n1 : List ℕ) (room0 room1 len0 len1 : ℕ) (a t s : List ℕ) → len0 ≡ length old → len1 ≡ length n1 → n1 ≡ old ++ a → room0 ≤ room1 → room1 < len1 + length t → s ≡ a ++ t → room0 < len0 + length s
behind-full old n1 room0 room1 len0 len1 a t s l0 l1 e1 kept full k = grind (arith, common_steps)

pub two-full : (room len all front tail : ℕ) (a t s : List ℕ) → front ≡ saturated (length a) → tail ≡ saturated (length t) → all ≡ min (front + tail) (2 ^ 64 - 1) → room < len + all → s ≡ a ++ t → room < len + length s
two-full room len all front tail a t s f e sum full k = grind (arith, common_steps)

-- ---- a request line, the proxy's own Via line, and what stands behind them

pub request_text : {A : Type 0} (method : List ℕ) (target : Uri) (proxy : Own) (branch : BranchName) (runs : List (HeaderRun A)) (body : List ℕ) → spelling (request_to method target proxy branch runs body) ≡ ended (start_line (Request method (request_uri target))) ++ (header_text (line (codes "Via") (own_via proxy branch)) ++ tail_text runs body)
request_text method target proxy branch runs body = grind (arith, common_steps, texts-of-lines lines_of runs, append_assoc)

pub request-as : {A : Type 0} (method : List ℕ) (target : Uri) (proxy : Own) (branch : BranchName) (runs : List (HeaderRun A)) (body : List ℕ) (m : MessageText) → Request method (request_uri target) ≡ m.start → line (codes "Via") (own_via proxy branch) ∷ all_lines runs ≡ m.headers → body ≡ m.body → spelling (request_to method target proxy branch runs body) ≡ spelling m
request-as method target proxy branch runs body m s h b = grind arith

-- room for a text, under another name of it
pub room-under : {E : Type 0} (r : Result Unit E) (room len : ℕ) (t s : List ℕ) → (len + length t ≤ room → IsOk r) → t ≡ s → len + length s ≤ room → IsOk r
room-under r room len t s h e = subst (λ (x : List ℕ). len + length x ≤ room → IsOk r) e h

-- where the whole has room, what stands last in it has
pub tail-fits : (room len tail : ℕ) (first via rest whole : List ℕ) → tail ≡ saturated (length rest) → whole ≡ first ++ (via ++ rest) → len + length whole ≤ room → len + tail ≤ room
tail-fits room len tail first via rest whole t w fits = grind (arith, common_steps)
