-- The faults of a first line, by their statements and by the function.
use Rattle.sip_text.proofs.Common.{◌≡◌, ℕ, ◌+◌, ◌/◌, ◌%◌, ◌<◌, true, false, cond, List, [], ◌∷◌, ◌++◌, Some, None, Result, Ok, Err, refl, sym, ap, subst, ◌∙◌, inl, inr, arith, ◌&&◌, codes, is_ascii_digit, and_parts, cond_both}
use Rattle.sip_text.proofs.Common.{cond-true, cond-false, bytes_eq-Decides, is_space, is_token, cut, Fault, BadStart, BadHeader, Lacks, BadVersion, BadStatus, Short, BadCSeq, BadLength, after_uri, begins_with_sip, is_status, is_uri, is_version}
use Rattle.sip_text.proofs.Common.{number_of, request_of, response_of, status_of, HasStartFault, StartText, Request, Response, status_text}
use Rattle.sip_text.specs.Reading.{start_of}
use Rattle.sip_text.specs.StartFaults.{HasBadStatus, HasOtherVersion, IsRequestVersion, IsWord}
use Rattle.sip_text.proofs.Gaps.{Cut, JoinsAt, cut_again_at, cut_joins_at}
use Rattle.sip_text.proofs.StartAgain.{is_sip, lowered_front, start_again, version_apart, version_begins}
use Rattle.sip_text.proofs.StartLines.{digit_range, digits_text, start_found}

-- ---- words

word_cut : (bs : List ℕ) → IsWord (cut is_space bs).0
word_cut [] = tt
word_cut (b ∷ bs) = grind (arith, word_cut bs)

cut_word : (word : List ℕ) → IsWord word → cut is_space word ≡ (word, None)
cut_word [] h = refl
cut_word (b ∷ bs) h = cond-false _ _ _ h.0 ∙ ap (λ (c : Cut). (b ∷ c.0, c.1)) (cut_word bs h.1)

sip_front : (bs : List ℕ) → begins_with_sip bs ≡ true → lowered_front bs ≡ codes "sip/"
sip_front bs h = (bytes_eq-Decides (lowered_front bs) (codes "sip/")).0 h

-- where a line begins with `SIP/`, so does its first word
first_word_begins : (word rest : List ℕ) (gap : ℕ) → is_space gap ≡ true → lowered_front (word ++ gap ∷ rest) ≡ codes "sip/" → begins_with_sip word ≡ true
first_word_begins word rest gap g e = grind arith

-- ---- what the function answers has been told of the bytes

abbrev pub Told : List ℕ → Result StartText Fault → Type 0
Told line (Ok s) = Unit {0}
Told line (Err BadStart) = Unit {0}
Told line (Err BadVersion) = HasOtherVersion line
Told line (Err BadStatus) = HasBadStatus line
Told line (Err BadHeader) = ⊥
Told line (Err (Lacks name)) = ⊥
Told line (Err (Short m)) = ⊥
Told line (Err BadCSeq) = ⊥
Told line (Err BadLength) = ⊥

status_told : (line version rest : List ℕ) (gap : ℕ) → is_version version ≡ true → is_space gap ≡ true → line ≡ version ++ gap ∷ rest → Told line (status_of rest)
status_told line version [] gap v g e = tt
status_told line version (a ∷ []) gap v g e = tt
status_told line version (a ∷ b ∷ []) gap v g e = tt
status_told line version (a ∷ b ∷ c ∷ []) gap v g e = tt
status_told line version (a ∷ b ∷ c ∷ s ∷ reason) gap v g e =
    let n = number_of a b c in
    cond_both (is_ascii_digit a && is_ascii_digit b && is_ascii_digit c && is_space s) (cond (is_status n) (Ok (Response n reason)) (Err BadStatus)) (Err BadStart) (Told line)
    (λ form.
    let last = and_parts (is_ascii_digit a && is_ascii_digit b && is_ascii_digit c) (is_space s) form in
    let third = and_parts (is_ascii_digit a && is_ascii_digit b) (is_ascii_digit c) last.0 in
    let two = and_parts (is_ascii_digit a) (is_ascii_digit b) third.0 in
    let x = digit_range a two.0 in let y = digit_range b two.1 in let z = digit_range c third.1 in
    cond_both (is_status n) (Ok (Response n reason)) (Err BadStatus) (Told line)
    (λ fits. tt)
    (λ none. record {
      status = n;
      gap = gap;
      second_gap = s;
      version = version;
      reason = reason;
      parts = e ∙ ap (λ (x : List ℕ). version ++ gap ∷ (x ++ s ∷ reason)) (sym (digits_text a b c two.0 two.1 third.1));
      gap_is = g;
      second_gap_is = last.1;
      version_is = v;
      digits = omega arith;
      no_status = none;
    }))
    (λ other. tt)

response_told : (line : List ℕ) (c : Cut) → begins_with_sip line ≡ true → JoinsAt is_space line c → IsWord c.0 → Told line (response_of c)
response_told line (version, None) sip joins word = grind arith
response_told line (version, Some rest) sip joins word =
    cond_both (is_version version) (status_of rest) (Err BadVersion) (Told line)
    (λ v. status_told line version rest joins.0 v joins.1 joins.2)
    (λ other. record {
      version = version;
      place = inl (record { response = sip; is_word = word; whole = inr (joins.0, rest, joins.1, joins.2) });
      begins = first_word_begins version rest joins.0 joins.1 (sip_front (version ++ joins.0 ∷ rest) (sym (ap begins_with_sip joins.2) ∙ sip));
      other = other;
    })

uri_told : (line method rest : List ℕ) (gap : ℕ) (c : Cut) → begins_with_sip line ≡ false → line ≡ method ++ gap ∷ rest → is_space gap ≡ true → IsWord method → JoinsAt is_space rest c → IsWord c.0 → Told line (after_uri method c)
uri_told line method rest gap (uri, None) none e g first joins second = tt
uri_told line method rest gap (uri, Some version) none e g first joins second =
    cond_both (is_version version) (cond (is_token method && is_uri uri) (Ok (Request method uri)) (Err BadStart)) (cond (begins_with_sip version) (Err BadVersion) (Err BadStart)) (Told line)
    (λ v. cond_both (is_token method && is_uri uri) (Ok (Request method uri)) (Err BadStart) (Told line) (λ f. tt) (λ f. tt))
    (λ other. cond_both (begins_with_sip version) (Err BadVersion) (Err BadStart) (Told line)
    (λ sip. record {
      version = version;
      place = inr (record {
        first = method;
        second = uri;
        gap = gap;
        second_gap = joins.0;
        no_response = none;
        parts = e ∙ ap (λ (x : List ℕ). method ++ gap ∷ x) joins.2;
        first_is = first;
        gap_is = g;
        second_is = second;
        second_gap_is = joins.1;
      });
      begins = sip;
      other = other;
    })
    (λ f. tt))

request_told : (line : List ℕ) (c : Cut) → begins_with_sip line ≡ false → JoinsAt is_space line c → IsWord c.0 → Told line (request_of c)
request_told line (method, None) none joins word = tt
request_told line (method, Some rest) none joins word = uri_told line method rest joins.0 (cut is_space rest) none joins.2 joins.1 word (cut_joins_at is_space rest) (word_cut rest)

pub start_told : (line : List ℕ) → Told line (start_of line)
unfolding start_of
start_told line =
    cond_both (begins_with_sip line) (response_of (cut is_space line)) (request_of (cut is_space line)) (Told line)
    (λ sip. response_told line (cut is_space line) sip (cut_joins_at is_space line) (word_cut line))
    (λ none. request_told line (cut is_space line) none (cut_joins_at is_space line) (word_cut line))

-- ---- and what is said of the bytes is answered

response_again : (line : List ℕ) (c : Cut) → begins_with_sip line ≡ true → cut is_space line ≡ c → is_version c.0 ≡ false → start_of line ≡ Err BadVersion
unfolding start_of
response_again line c sip at other = cond-true _ _ _ sip ∙ ap response_of at ∙ cond-false _ _ _ other

request_again : (line version : List ℕ) → IsRequestVersion line version → begins_with_sip version ≡ true → is_version version ≡ false → start_of line ≡ Err BadVersion
unfolding start_of
request_again line version r sip other =
    let rest = r.second ++ r.second_gap ∷ version in
    let first : cut is_space line ≡ (r.first, Some rest) = ap (cut is_space) r.parts ∙ cut_again_at is_space r.first r.gap rest r.first_is r.gap_is in
    let second : cut is_space rest ≡ (r.second, Some version) = cut_again_at is_space r.second r.second_gap version r.second_is r.second_gap_is in
    cond-false _ _ _ r.no_response ∙ ap request_of first ∙ ap (after_uri r.first) second ∙ cond-false _ _ _ other ∙ cond-true _ _ _ sip

pub version_again : (line : List ℕ) → HasOtherVersion line → start_of line ≡ Err BadVersion
version_again line h =
    elim h.place [
      | inl r ↦ elim r.whole [
        | inl e ↦ response_again line (h.version, None) r.response (ap (cut is_space) e ∙ cut_word h.version r.is_word) h.other
        | inr e ↦ response_again line (h.version, Some e.1) r.response (ap (cut is_space) e.3 ∙ cut_again_at is_space h.version e.0 e.1 r.is_word e.2) h.other
      ]
      | inr r ↦ request_again line h.version r h.begins h.other
    ]

number_text : (n : ℕ) → n < 1000 → number_of (48 + n / 100) (48 + n / 10 % 10) (48 + n % 10) ≡ n
number_text n h = omega arith

digits_again : (n gap : ℕ) (reason : List ℕ) → n < 1000 → is_status n ≡ false → is_space gap ≡ true → status_of (status_text n ++ (gap ∷ reason)) ≡ Err BadStatus
digits_again n gap reason top none g = grind arith

pub status_again : (line : List ℕ) → HasBadStatus line → start_of line ≡ Err BadStatus
unfolding start_of
status_again line h =
    let rest = status_text h.status ++ (h.second_gap ∷ h.reason) in
    let c : cut is_space (h.version ++ h.gap ∷ rest) ≡ (h.version, Some rest) = cut_again_at is_space h.version h.gap rest (version_apart h.version h.version_is) h.gap_is in
    ap start_of h.parts ∙ cond-true _ _ _ (version_begins h.version (h.gap ∷ rest) (is_sip h.version h.version_is)) ∙ ap response_of c ∙ cond-true _ _ _ h.version_is ∙ digits_again h.status h.second_gap h.reason h.digits h.no_status h.second_gap_is

-- ---- both ways

pub fault_found : (line : List ℕ) (f : Fault) → start_of line ≡ Err f → HasStartFault line f
fault_found line f at = grind (arith, start_again, version_again, status_again, start_told)

no_start : (line : List ℕ) (r : Result StartText Fault) → start_of line ≡ r → HasStartFault line BadStart → r ≡ Err BadStart
no_start line (Ok s) at h = absurd (h.0 s (start_found line s at))
no_start line (Err BadStart) at h = refl
no_start line (Err BadVersion) at h = absurd (h.1 (subst (Told line) at (start_told line)))
no_start line (Err BadStatus) at h = absurd (h.2 (subst (Told line) at (start_told line)))
no_start line (Err BadHeader) at h = absurd (subst (Told line) at (start_told line))
no_start line (Err (Lacks name)) at h = absurd (subst (Told line) at (start_told line))
no_start line (Err (Short m)) at h = absurd (subst (Told line) at (start_told line))
no_start line (Err BadCSeq) at h = absurd (subst (Told line) at (start_told line))
no_start line (Err BadLength) at h = absurd (subst (Told line) at (start_told line))

pub fault_again : (line : List ℕ) (f : Fault) → HasStartFault line f → start_of line ≡ Err f
fault_again line BadStart h = no_start line (start_of line) refl h
fault_again line BadVersion h = version_again line h
fault_again line BadStatus h = status_again line h
fault_again line BadHeader h = absurd h
fault_again line (Lacks name) h = absurd h
fault_again line (Short m) h = absurd h
fault_again line BadCSeq h = absurd h
fault_again line BadLength h = absurd h
