-- The values of a message's headers, and parts of them.
use Rattle.sip_text.proofs.Common.{◌≡◌, ℕ, true, List, [], ◌∷◌, ◌++◌, refl, list_all, and_parts, is_token, trim, IsMessage, is_header, is_value, HeaderText}
use Rattle.sip_text.proofs.Common.{MessageText, common_steps, arith}
use Rattle.sip_text.specs.Name.{values_of}
use Rattle.sip_text.proofs.laws.Good.{all_trim, trim_trimmed}

values_good : (name : List ℕ) (hs : List HeaderText) → list_all is_header hs ≡ true → list_all is_value (values_of name hs) ≡ true
unfolding values_of
values_good name [] h = refl
values_good name (x ∷ xs) h =
    let both = and_parts (is_header x) (list_all is_header xs) h in
    let one = and_parts (is_token x.name) (is_value x.value) both.0 in
    let rest = values_good name xs both.1 in
    grind arith

pub header_values : (m : MessageText) (name : List ℕ) → IsMessage m → list_all is_value (values_of name m.headers) ≡ true
header_values m name good = values_good name m.headers good.head.headers

pub trimmed_part : (front part back : List ℕ) → is_value (front ++ (part ++ back)) ≡ true → is_value (trim part) ≡ true
trimmed_part front part back h = grind (arith, common_steps, all_trim, trim_trimmed)
