-- A response as it goes upstream is a message.
use Rattle.sip_builders.proofs.Common.{◌≡◌, ℕ, Bool, true, false, List, [], ◌∷◌, ◌++◌, drop, map, Option, Some, None, refl, ap, ◌∙◌, codes, is_none, option_map, filter, flat_map, list_all, and_parts, cond_both, cond-false, append-nil, list_all-append, Quotes}
use Rattle.sip_builders.proofs.Common.{Plain, is_token, trim, pieces_outside_behind, cut_outside, pieces_outside-cut, IsMessage, is_header, first_of, first_value, same_name, HeaderText, MessageText, and_both, replaced, exchanged, is_other, has_second, values_in}
use Rattle.sip_builders.proofs.Common.{via_values, challenge_line, challenge_name, contact_lines, others_of, upward_headers, upward_of, with_contacts, without_top, SameOthers, all-replaced, apart, values-replaced, arith, common_steps}
use Rattle.fork_model.specs.Table as table
use Rattle.sip_text.specs.Name.{full_name, values_of}
use Rattle.sip_build.specs.Upward.{AreKept, is_challenge}
use Rattle.sip_builders.proofs.HeaderValues.{lines_good}
use Rattle.sip_via.proofs.laws.Replaced.{GoodValue, edited-good, first-good, first-replaced}
use Rattle.sip_via.proofs.laws.TrimmedValues.{others-good}

-- ---- values of a name among lines

values-append : (n : List ℕ) (xs ys : List HeaderText) → values_of n (xs ++ ys) ≡ values_of n xs ++ values_of n ys
unfolding values_of
values-append n [] ys = refl
values-append n (x ∷ xs) ys = grind (arith, values-append n xs ys)

values-filter : (n name : List ℕ) (hs : List HeaderText) → same_name name n ≡ false → values_of n (filter (is_other name) hs) ≡ values_of n hs
unfolding values_of
values-filter n name [] differ = refl
values-filter n name (h ∷ hs) differ = grind (arith, apart, values-filter n name hs differ)

values-exchanged : (n name : List ℕ) (lines hs : List HeaderText) → same_name name n ≡ false → values_of n lines ≡ [] → values_of n (exchanged name lines hs) ≡ values_of n hs
unfolding values_of
values-exchanged n name lines [] differ none = none
values-exchanged n name lines (h ∷ hs) differ none = grind (arith, values-append, values-filter, apart, values-exchanged n name lines hs differ none)

values-contacts : (n : List ℕ) (kept : List (List ℕ)) → same_name n (codes "Contact") ≡ false → values_of n (contact_lines kept) ≡ []
unfolding values_of
values-contacts n [] differ = refl
values-contacts n (v ∷ kept) differ = cond-false (same_name n (codes "Contact")) (v ∷ values_of n (contact_lines kept)) (values_of n (contact_lines kept)) differ ∙ values-contacts n kept differ

values-challenges : (n : List ℕ) (cs : List table.Challenge) → ((p : Bool) → same_name n (challenge_name p) ≡ false) → values_of n (map challenge_line cs) ≡ []
unfolding values_of
values-challenges n [] differ = refl
values-challenges n (c ∷ cs) differ = cond-false (same_name n (challenge_name c.proxy)) (c.value ∷ values_of n (map challenge_line cs)) (values_of n (map challenge_line cs)) (differ c.proxy) ∙ values-challenges n cs differ

-- the first line of the name is gone
pub values-dropped : (name : List ℕ) (hs : List HeaderText) → values_of name (replaced name None hs) ≡ drop 1 (values_of name hs)
unfolding values_of
values-dropped name [] = refl
values-dropped name (h ∷ hs) = grind (arith, values-dropped name hs)

-- ---- a Via line is left

alone-cut : (c : List ℕ × Option (List ℕ)) → option_map trim c.1 ≡ None → has_second (map trim (c.0 ∷ pieces_outside_behind Quotes 44 c.1) ++ []) ≡ false
alone-cut c e = grind arith

alone : (v : List ℕ) → others_of (Some v) ≡ None → has_second (flat_map values_in (v ∷ [])) ≡ false
alone v e = ap (λ (ps : List (List ℕ)). has_second (map trim ps ++ [])) (pieces_outside-cut Quotes 44 v) ∙ alone-cut (cut_outside Quotes 44 Plain v) e

stays : (o : Option (List ℕ)) (hs : List HeaderText) (vs : List (List ℕ)) → values_of (codes "via") hs ≡ vs → (o ≡ None → is_none (first_of (drop 1 vs)) ≡ false) → is_none (first_of vs) ≡ false → is_none (first_value (codes "via") (replaced (codes "via") o hs)) ≡ false
stays None hs vs e more some = ap (λ (x : List (List ℕ)). is_none (first_of x)) (values-dropped (codes "via") hs) ∙ ap (λ (x : List (List ℕ)). is_none (first_of (drop 1 x))) e ∙ more refl
stays (Some v) hs vs e more some = first-replaced (codes "via") v hs ∙ ap (λ (x : List (List ℕ)). is_none (first_of x)) e ∙ some

second-stays : (hs : List HeaderText) (vs : List (List ℕ)) → values_of (codes "via") hs ≡ vs → has_second (flat_map values_in vs) ≡ true → is_none (first_value (codes "via") (replaced (codes "via") (others_of (first_of vs)) hs)) ≡ false
second-stays hs vs e second = grind (arith, stays, alone)

without_top-via : (hs : List HeaderText) → has_second (flat_map values_in (values_of (codes "via") hs)) ≡ true → is_none (first_value (codes "via") (without_top hs)) ≡ false
without_top-via hs second = second-stays hs (values_of (codes "via") hs) refl second

-- ---- each line is a header

all-filter : (name : List ℕ) (hs : List HeaderText) → list_all is_header hs ≡ true → list_all is_header (filter (is_other name) hs) ≡ true
all-filter name [] h = refl
all-filter name (x ∷ hs) h =
    let both = and_parts (is_header x) (list_all is_header hs) h in
    grind (arith, common_steps, all-filter name hs both.1, cond_both, and_both)

all-append : (xs ys : List HeaderText) → list_all is_header xs ≡ true → list_all is_header ys ≡ true → list_all is_header (xs ++ ys) ≡ true
all-append xs ys h k = list_all-append is_header xs ys ∙ and_both (list_all is_header xs) (list_all is_header ys) h k

all-exchanged : (name : List ℕ) (lines hs : List HeaderText) → list_all is_header lines ≡ true → list_all is_header hs ≡ true → list_all is_header (exchanged name lines hs) ≡ true
all-exchanged name lines [] l h = l
all-exchanged name lines (x ∷ hs) l h =
    let both = and_parts (is_header x) (list_all is_header hs) h in
    grind (arith, common_steps, all-append lines (filter (is_other name) hs) l (all-filter name hs both.1), and_both (is_header x) (list_all is_header (exchanged name lines hs)) both.0 (all-exchanged name lines hs l both.1), cond_both, all-filter)

all-contacts : (kept : Option (List (List ℕ))) (hs : List HeaderText) → AreKept kept → list_all is_header hs ≡ true → list_all is_header (with_contacts kept hs) ≡ true
all-contacts kept hs good h = grind (arith, all-exchanged, lines_good)

name-token : (proxy : Bool) → is_token (challenge_name proxy) ≡ true
name-token proxy = grind arith

all-challenges : (cs : List table.Challenge) → list_all is_challenge cs ≡ true → list_all is_header (map challenge_line cs) ≡ true
all-challenges [] h = refl
all-challenges (c ∷ cs) h =
    let both = and_parts (is_challenge c) (list_all is_challenge cs) h in
    grind (arith, common_steps, and_both (is_header (challenge_line c)) (list_all is_header (map challenge_line cs)), all-challenges cs both.1, name-token)

others-if : (o : Option (List ℕ)) (hs : List HeaderText) → first_value (codes "via") hs ≡ o → list_all is_header hs ≡ true → GoodValue (others_of o)
others-if o hs e h = grind (arith, others-good, first-good)

all-without_top : (hs : List HeaderText) → list_all is_header hs ≡ true → list_all is_header (without_top hs) ≡ true
all-without_top hs h = all-replaced (codes "via") (others_of (first_value (codes "via") hs)) hs h (others-if (first_value (codes "via") hs) hs refl h)

-- ---- the response

pub contacts-same : (n : List ℕ) (kept : Option (List (List ℕ))) (hs : List HeaderText) → same_name (codes "contact") n ≡ false → same_name n (codes "Contact") ≡ false → values_of n (with_contacts kept hs) ≡ values_of n hs
contacts-same n kept hs contact small = grind (arith, values-exchanged, values-contacts)

pub challenges-same : (n : List ℕ) (hs : List HeaderText) (cs : List table.Challenge) → ((p : Bool) → same_name n (challenge_name p) ≡ false) → values_of n (hs ++ map challenge_line cs) ≡ values_of n hs
challenges-same n hs cs differ = values-append n hs (map challenge_line cs) ∙ ap (λ (vs : List (List ℕ)). values_of n hs ++ vs) (values-challenges n cs differ) ∙ append-nil (values_of n hs)

pub either : (n : List ℕ) → same_name n (codes "Proxy-Authenticate") ≡ false → same_name n (codes "WWW-Authenticate") ≡ false → (p : Bool) → same_name n (challenge_name p) ≡ false
either n proxy server p = grind arith

upward-same : (n : List ℕ) (hs : List HeaderText) (kept : Option (List (List ℕ))) (cs : List table.Challenge) → same_name (codes "via") n ≡ false → same_name (codes "contact") n ≡ false → same_name n (codes "Contact") ≡ false → ((p : Bool) → same_name n (challenge_name p) ≡ false) → values_of n (upward_headers hs kept cs) ≡ values_of n hs
upward-same n hs kept cs via contact small differ = grind (arith, challenges-same, contacts-same, values-replaced)

same-others : (hs : List HeaderText) (kept : Option (List (List ℕ))) (cs : List table.Challenge) → SameOthers (upward_headers hs kept cs) hs
unfolding full_name
same-others hs kept cs = grind (arith, upward-same)

via-left : (hs : List HeaderText) (kept : Option (List (List ℕ))) (cs : List table.Challenge) → has_second (flat_map values_in (values_of (codes "via") hs)) ≡ true → is_none (first_value (codes "via") (upward_headers hs kept cs)) ≡ false
unfolding full_name
via-left hs kept cs second = grind (arith, challenges-same, contacts-same, without_top-via)

pub upward-good : (m : MessageText) (kept : Option (List (List ℕ))) (cs : List table.Challenge) → IsMessage m → has_second (via_values m) ≡ true → AreKept kept → list_all is_challenge cs ≡ true → IsMessage (upward_of m kept cs)
upward-good m kept cs good second are good_challenges =
    let inner = without_top m.headers in
    let all = all-append (with_contacts kept inner) (map challenge_line cs) (all-contacts kept inner are (all-without_top m.headers good.head.headers)) (all-challenges cs good_challenges) in
    edited-good m (upward_headers m.headers kept cs) good all (via-left m.headers kept cs second) (same-others m.headers kept cs)
