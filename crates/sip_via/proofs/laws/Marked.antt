-- A Via line whose top value was marked is a header value.
use Rattle.sip_via.proofs.Common.{◌≡◌, ℕ, suc, ◌+◌, ◌<◌, ◌^◌, Bool, true, false, not, eqb, cond, List, [], ◌∷◌, ◌++◌, length, map, take, drop, reverse, Option, refl, sym, ap, ◌∙◌, append_assoc, arith, codes, Ok, is_ascii_digit, to_ascii_lowercase}
use Rattle.sip_via.proofs.Common.{decimal, flat_map, list_all, prefix_len, and_parts, cases_Bool, cond-true, cond-false, cond_both, digits_decimal, reverse-append, reverse-reverse, take-append-drop, list_all-append, Quotes, ShelterState, Plain, is_space}
use Rattle.sip_via.proofs.Common.{trim, trim_end, trim_start, behind, pieces_outside_behind, cut_outside, place_after, cut_outside_joins, trim_end-reverse, trim_end-whole, IsMessage, is_header, is_line, is_line_byte, is_trimmed, is_value}
use Rattle.sip_via.proofs.Common.{first_value, HeaderText, MessageText, begins_with_space, and_both, trim_trimmed, Hop, other_than, IsAddress, address_text, dotted, IsSource, asks_port, filled, first_via_line, gets_received, marked_line}
use Rattle.sip_via.proofs.Common.{marked_param, marked_parts, marked_value, received_text, with_via_line, are_parts, is_named, is_via, or_empty, parts_of, via_of, own, common_steps}
use Rattle.std.specs.List.{onto_first}
use Rattle.sip_lex.specs.Outside.{pieces_from}
use Rattle.sip_via.specs.Received.{line_marked}
use Rattle.sip_via.specs.ViaParts.{is_trimmed as is_via_trimmed}
use Rattle.sip_via.proofs.laws.ViaFound.{via_found}
use Rattle.sip_via.proofs.laws.TrimmedValues.{all-parts, all-trim}
use Rattle.sip_via.proofs.laws.Replaced.{first-good, with_via-good}
use Rattle.sip_branch.proofs.laws.HexLaws.{head_of}

abbrev Cut : Type 0
Cut = List ℕ × Option (List ℕ)

-- ---- lines

pub line-append : (xs ys : List ℕ) → is_line xs ≡ true → is_line ys ≡ true → is_line (xs ++ ys) ≡ true
line-append xs ys h k = list_all-append is_line_byte xs ys ∙ and_both (is_line xs) (is_line ys) h k

digit-line : (b : ℕ) → is_ascii_digit b ≡ true → is_line_byte b ≡ true
digit-line b h = grind arith

digits-line : (ds : List ℕ) → list_all is_ascii_digit ds ≡ true → is_line ds ≡ true
digits-line [] h = refl
digits-line (d ∷ ds) h =
    let each = and_parts (is_ascii_digit d) (list_all is_ascii_digit ds) h in
    and_both (is_line_byte d) (is_line ds) (digit-line d each.0) (digits-line ds each.1)

pub decimal-line : (n : ℕ) → n < 2 ^ 64 → is_line (decimal n) ≡ true
decimal-line n small = digits-line (decimal n) (digits_decimal own n small)

-- ---- space at the front

pub begins-append : (xs ys : List ℕ) → begins_with_space xs ≡ false → begins_with_space ys ≡ false → begins_with_space (xs ++ ys) ≡ false
begins-append xs ys h k = grind arith

pub begins-front : (xs ys : List ℕ) → begins_with_space (xs ++ ys) ≡ false → begins_with_space xs ≡ false
begins-front xs ys h = grind arith

not-true : (b : Bool) → not b ≡ true → b ≡ false
not-true b e = grind arith

pub front-of : (v : List ℕ) → is_trimmed v ≡ true → begins_with_space v ≡ false
front-of v h = not-true (begins_with_space v) (and_parts (not (begins_with_space v)) (not (begins_with_space (reverse v))) h).0

pub back-of : (v : List ℕ) → is_trimmed v ≡ true → begins_with_space (reverse v) ≡ false
back-of v h = not-true (begins_with_space (reverse v)) (and_parts (not (begins_with_space v)) (not (begins_with_space (reverse v))) h).1

drop-spaces : (bs : List ℕ) → begins_with_space (drop (prefix_len is_space bs) bs) ≡ false
drop-spaces [] = refl
drop-spaces (b ∷ bs) =
    cond_both (is_space b) (1 + prefix_len is_space bs) 0 (λ n. begins_with_space (drop n (b ∷ bs)) ≡ false)
    (λ e. ap (λ n. begins_with_space (drop n (b ∷ bs))) (let k : 1 + prefix_len is_space bs ≡ suc (prefix_len is_space bs) = omega arith in k) ∙ drop-spaces bs)
    (λ e. e)

-- no space stands at the end of a text that was trimmed there
pub trim_end-back : (bs : List ℕ) → begins_with_space (reverse (trim_end bs)) ≡ false
trim_end-back bs = ap (λ (x : List ℕ). begins_with_space (reverse x)) (trim_end-reverse bs) ∙ ap begins_with_space (reverse-reverse (trim_start (reverse bs))) ∙ drop-spaces (reverse bs)

take-front : (n : ℕ) (bs : List ℕ) → begins_with_space bs ≡ false → begins_with_space (take n bs) ≡ false
take-front n bs h = grind arith

-- ---- the parameters

onto-line : (b : ℕ) (parts : List (List ℕ)) → is_line_byte b ≡ true → list_all is_line parts ≡ true → list_all is_line (onto_first b parts) ≡ true
onto-line b parts h k = grind arith

pieces-line : (place : ShelterState) (bs : List ℕ) → is_line bs ≡ true → list_all is_line (pieces_from Quotes 59 place bs) ≡ true
pieces-line place [] h = refl
pieces-line place (b ∷ bs) h =
    let each = and_parts (is_line_byte b) (is_line bs) h in
    grind (arith, common_steps, onto-line b (pieces_from Quotes 59 (place_after Quotes place b) bs) each.0 (pieces-line (place_after Quotes place b) bs each.1), pieces-line Plain bs each.1, cond_both)

filled-line : (port : ℕ) (param : List ℕ) → port < 2 ^ 64 → is_line param ≡ true → is_line (filled port param) ≡ true
filled-line port param small h = grind (arith, common_steps, all-parts, decimal-line)

marked_param-line : (port : ℕ) (param : List ℕ) → port < 2 ^ 64 → is_line param ≡ true → is_line (marked_param port param) ≡ true
marked_param-line port param small h = grind (arith, filled-line)

params-line : (port : ℕ) (ps : List (List ℕ)) → port < 2 ^ 64 → list_all is_line ps ≡ true → is_line (flat_map (marked_param port) ps) ≡ true
params-line port [] small h = refl
params-line port (p ∷ ps) small h =
    let each = and_parts (is_line p) (list_all is_line ps) h in
    line-append (marked_param port p) (flat_map (marked_param port) ps) (marked_param-line port p small each.0) (params-line port ps small each.1)

marked_param-front : (port : ℕ) (param : List ℕ) → begins_with_space (marked_param port param) ≡ false
marked_param-front port param = cond_both (is_named (codes "received") param) [] (59 ∷ cond (asks_port param) (filled port param) param) (λ (x : List ℕ). begins_with_space x ≡ false) (λ e. refl) (λ e. refl)

params-front : (port : ℕ) (ps : List (List ℕ)) → begins_with_space (flat_map (marked_param port) ps) ≡ false
params-front port [] = refl
params-front port (p ∷ ps) = begins-append (marked_param port p) (flat_map (marked_param port) ps) (marked_param-front port p) (params-front port ps)

-- ---- the address

dotted-line : (n : ℕ) → n < 2 ^ 64 → is_line (dotted n) ≡ true
dotted-line n small = decimal-line n small

pub address-line : (addr : List ℕ) → IsAddress addr → is_line (address_text addr) ≡ true
address-line addr is = grind (arith, line-append, decimal-line, dotted-line)

received-line : (address host : List ℕ) (ps : List (List ℕ)) → is_line address ≡ true → is_line (received_text address host ps) ≡ true
received-line address host ps is = cond_both (gets_received address host ps) (codes ";received=" ++ address) [] (λ (x : List ℕ). is_line x ≡ true) (λ e. line-append (codes ";received=") address refl is) (λ e. refl)

received-front : (address host : List ℕ) (ps : List (List ℕ)) → begins_with_space (received_text address host ps) ≡ false
received-front address host ps = cond_both (gets_received address host ps) (codes ";received=" ++ address) [] (λ (x : List ℕ). begins_with_space x ≡ false) (λ e. refl) (λ e. refl)

-- ---- the top value

-- a text of a line without space at its front, trimmed at its end
pub record IsTop (bs : List ℕ) : Type 0 where
  pub lines : is_line bs ≡ true
  pub front : begins_with_space bs ≡ false
  pub back : begins_with_space (reverse bs) ≡ false

behind-pieces : (c : Cut) → is_line (behind 59 c.1) ≡ true → list_all is_line (pieces_outside_behind Quotes 59 c.1) ≡ true
behind-pieces c h = grind (arith, pieces-line)

parts-top : (source : Hop) (host value : List ℕ) (c : Cut) → IsSource source → is_line value ≡ true → begins_with_space value ≡ false → value ≡ c.0 ++ behind 59 c.1 → IsTop (marked_parts source host c)
parts-top source host value c is h k e = grind (arith, and_parts, list_all-append, line-append, params-line, behind-pieces, received-line, address-line, begins-append, params-front, received-front, begins-front, all-parts, take-front, trim_end-back)

value-top : (source : Hop) (value : List ℕ) → IsSource source → is_line value ≡ true → begins_with_space value ≡ false → IsTop (marked_value source value)
value-top source value is h k = parts-top source (via_of value).host value (cut_outside Quotes 59 Plain value) is h k (cut_outside_joins Quotes 59 Plain value)

-- ---- a Via value begins with a letter

-- with neither space nor `;`
pub record BeginsPlain (bs : List ℕ) : Type 0 where
  pub first : ℕ
  pub rest : List ℕ
  pub is : bs ≡ first ∷ rest
  pub no_space : is_space first ≡ false
  pub no_mark : eqb first 59 ≡ false

-- `s` in any case
abbrev is_first : ℕ → Bool
is_first b = eqb (to_ascii_lowercase b) 115

pub sip-begins : (name rest : List ℕ) → map to_ascii_lowercase name ≡ codes "sip" → BeginsPlain (name ++ rest)
sip-begins [] rest e = let k = ap (λ (x : List ℕ). length x) e in absurd (omega (arith, k))
sip-begins (b ∷ name) rest e = grind (arith, common_steps, head_of, other_than)

pub via-begins : (value : List ℕ) → is_via value ≡ true → BeginsPlain value
via-begins value h =
    let both = and_parts (is_via_trimmed value) (are_parts (parts_of value)) h in
    grind (arith, common_steps, via_found value both.0 both.1, sip-begins)

some-left : (b : ℕ) (bs trimmed gap : List ℕ) → is_space b ≡ false → b ∷ bs ≡ trimmed ++ gap → list_all is_space gap ≡ true → 0 < length trimmed
some-left b bs trimmed gap other e spaces = grind (arith, common_steps)

trim_end-some : (b : ℕ) (bs : List ℕ) → is_space b ≡ false → 0 < length (trim_end (b ∷ bs))
trim_end-some b bs other = let t = trim_end-whole (b ∷ bs) in some-left b bs (trim_end (b ∷ bs)) t.gap other t.whole t.spaces

marked-some : (source : Hop) (host value : List ℕ) → BeginsPlain value → 0 < length (marked_parts source host (cut_outside Quotes 59 Plain value))
marked-some source host value begins = grind (arith, common_steps, cond-false, trim_end-some)

-- ---- the line

-- a value with another top in front of what stood behind the first
joined-good : (top front tail : List ℕ) → IsTop top → 0 < length top → is_value (front ++ tail) ≡ true → is_value (top ++ tail) ≡ true
joined-good top front tail is some good = grind (arith, common_steps, and_parts, list_all-append, begins-front, reverse-append)

line-good : (source : Hop) (line : List ℕ) (c : Cut) → IsSource source → is_value line ≡ true → line ≡ c.0 ++ behind 44 c.1 → is_via (trim c.0) ≡ true → is_value (marked_line source c) ≡ true
line-good source line (top, others) is good e reads =
    let value = trim top in
    let n = length (trim_end top) in
    let tail = drop n top ++ behind 44 others in
    let both = and_parts (is_line line) (is_trimmed line) good in
    let top_line : is_line top ≡ true = (and_parts (is_line top) (is_line (behind 44 others)) (sym (list_all-append is_line_byte top (behind 44 others)) ∙ ap is_line (sym e) ∙ both.0)).0 in
    let is_top = value-top source value is (all-trim is_line_byte top top_line) (front-of value (trim_trimmed top)) in
    let split : line ≡ take n top ++ tail = e ∙ ap (λ (x : List ℕ). x ++ behind 44 others) (sym (take-append-drop n top)) ∙ append_assoc (take n top) (drop n top) (behind 44 others) in
    joined-good (marked_value source value) (take n top) tail is_top (marked-some source (via_of value).host value (via-begins value reads)) (ap is_value (sym split) ∙ good)

-- the first Via line, marked, is a value
marked_line-good : (source : Hop) (line : List ℕ) → IsSource source → is_value line ≡ true → is_via (trim (cut_outside Quotes 44 Plain line).0) ≡ true → is_value (marked_line source (cut_outside Quotes 44 Plain line)) ≡ true
marked_line-good source line is good reads = line-good source line (cut_outside Quotes 44 Plain line) is good (cut_outside_joins Quotes 44 Plain line) reads

marked-at-good : (source : Hop) (line v : List ℕ) → IsSource source → is_value line ≡ true → line_marked source line ≡ Ok v → is_value v ≡ true
marked-at-good source line v is good e =
    let c = cut_outside Quotes 44 Plain line in
    grind (arith, common_steps, cases_Bool (is_via (trim c.0)), cond-true, marked_line-good, cond-false)

first-line-good : (hs : List HeaderText) (o : Option (List ℕ)) → list_all is_header hs ≡ true → first_value (codes "via") hs ≡ o → is_value (or_empty o) ≡ true
first-line-good hs o h e = grind (arith, first-good)

-- a message with its first Via line marked is one
pub marked-message : (m : MessageText) (source : Hop) (line v : List ℕ) → IsMessage m → IsSource source → line ≡ first_via_line m → line_marked source line ≡ Ok v → IsMessage (with_via_line m v)
marked-message m source line v good is l e =
    let value : is_value line ≡ true = ap is_value l ∙ first-line-good m.headers (first_value (codes "via") m.headers) good.head.headers refl in
    with_via-good m v good (marked-at-good source line v is value e)
