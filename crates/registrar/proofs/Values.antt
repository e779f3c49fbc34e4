-- What a registrar writes may stand in header lines.
use Rattle.std.proofs.Common.{◌≡◌, ℕ, ◌<◌, ◌^◌, Bool, true, false, not, List, [], ◌∷◌, ◌++◌, map, codes, reverse, refl, sym, ap, ◌∙◌, append_assoc}
use Rattle.std.specs.Fmt.{decimal}
use Rattle.std.specs.List.{list_all}
use Rattle.std.proofs.lemmas.Bool.{and_parts}
use Rattle.std.proofs.lemmas.Fmt.{decimal_nonempty}
use Rattle.sip_lex.specs.Bytes.{is_token}
use Rattle.sip_lex.specs.Values.{begins_with_space, is_line, is_trimmed, is_value}
use Rattle.sip_text.proofs.laws.Good.{and_both}
use Rattle.sip_text.specs.Message.{is_header}
use Rattle.sip_via.proofs.laws.Marked.{line-append}
use Rattle.sip_via.proofs.laws.OwnVia.{IsEnd, decimal-value, end-behind}
use Rattle.sip_via.specs.Edits.{line}
use Rattle.sip_text.specs.Text.{HeaderText}
use Rattle.sip_build.specs.declared.responses.OwnStatus.TheVariants.{BadExtension}
use Rattle.authentication.specs.Answer.{Answer, with_line}
use Rattle.registrar.specs.Asking.{unsupported}
use Rattle.registrar.specs.Shown.{is_item}

pub not_false : (b : Bool) → not b ≡ true → b ≡ false
not_false true h = absurd cc
not_false false h = refl

pub decimal_header : (name value : List ℕ) (n : ℕ) → is_token name ≡ true → value ≡ decimal n → n < 2 ^ 64 → is_header (line name value) ≡ true
decimal_header name value n token is small =
    and_both (is_token name) (is_value value) token (ap (λ (v : List ℕ). is_value v) is ∙ decimal-value n small)

decimal_end : (n : ℕ) → n < 2 ^ 64 → IsEnd (decimal n)
decimal_end n small =
    let value = and_parts (is_line (decimal n)) (is_trimmed (decimal n)) (decimal-value n small) in
    let ends = and_parts (not (begins_with_space (decimal n))) (not (begins_with_space (reverse (decimal n)))) value.1 in
    record { some = decimal_nonempty n small; ends = not_false (begins_with_space (reverse (decimal n))) ends.1 }

begins : (item back : List ℕ) → begins_with_space item ≡ false → begins_with_space back ≡ false → begins_with_space (item ++ back) ≡ false
begins [] back h k = k
begins (b ∷ item) back h k = h

abbrev shown : List ℕ → ℕ → List ℕ
shown item n = item ++ (codes ";expires=" ++ decimal n)

contact_value : (item : List ℕ) (n : ℕ) → is_item item ≡ true → n < 2 ^ 64 → is_value (shown item n) ≡ true
contact_value item n h small =
    let item_is = and_parts (is_line item) (not (begins_with_space item)) h in
    let number = and_parts (is_line (decimal n)) (is_trimmed (decimal n)) (decimal-value n small) in
    let within = line-append item (codes ";expires=" ++ decimal n) item_is.0 (line-append (codes ";expires=") (decimal n) refl number.0) in
    let front = begins item (codes ";expires=" ++ decimal n) (not_false (begins_with_space item) item_is.1) refl in
    let back : IsEnd (shown item n) = end-behind item (codes ";expires=" ++ decimal n) (end-behind (codes ";expires=") (decimal n) (decimal_end n small)) in
    and_both (is_line (shown item n)) (is_trimmed (shown item n)) within
    (and_both (not (begins_with_space (shown item n))) (not (begins_with_space (reverse (shown item n)))) (ap not front) (ap not back.ends))

pub contact_header : (item value : List ℕ) (n : ℕ) → is_item item ≡ true → value ≡ item ++ (codes ";expires=" ++ decimal n) → n < 2 ^ 64
    → is_header (line (codes "Contact") value) ≡ true
contact_header item value n h is small = ap (λ (v : List ℕ). is_value v) is ∙ contact_value item n h small

-- the first of several values
pub unsupported_header : (values : List (List ℕ)) (value : List ℕ) (rest : List (List ℕ)) (copy : List ℕ) → values ≡ value ∷ rest → list_all is_value values ≡ true → copy ≡ value
    → is_header (line (codes "Unsupported") copy) ≡ true
unsupported_header values value rest copy e all is =
    let both = and_parts (is_value value) (list_all is_value rest) (sym (ap (list_all is_value) e) ∙ all) in
    ap (λ (v : List ℕ). is_value v) is ∙ both.0

-- the line of the first of several values
pub one_unsupported : (old new : Answer) (values rest : List (List ℕ)) (value copy : List ℕ) (whole : List HeaderText) → values ≡ value ∷ rest → copy ≡ value
    → new ≡ with_line old (line (codes "Unsupported") copy)
    → (old.status ≡ BadExtension) × (old.lines ++ map unsupported values ≡ whole) × (list_all is_value values ≡ true)
    → (new.status ≡ BadExtension) × (new.lines ++ map unsupported rest ≡ whole) × (list_all is_value rest ≡ true)
one_unsupported old new values rest value copy whole e is made h =
    let lines =
    ap (λ (answer : Answer). answer.lines ++ map unsupported rest) made
    ∙ append_assoc old.lines (unsupported copy ∷ []) (map unsupported rest)
    ∙ ap (λ (text : List ℕ). old.lines ++ (unsupported text ∷ map unsupported rest)) is
    ∙ ap (λ (texts : List (List ℕ)). old.lines ++ map unsupported texts) (sym e) ∙ h.1 in
    let all = and_parts (is_value value) (list_all is_value rest) (sym (ap (list_all is_value) e) ∙ h.2) in
    (ap (λ (answer : Answer). answer.status) made ∙ h.0, lines, all.1)
