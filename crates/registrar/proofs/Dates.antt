-- A date may stand in a header line.
use Rattle.std.proofs.Common.{◌≡◌, ℕ, zero, suc, ◌+◌, ◌-◌, ◌/◌, ◌%◌, true, false, not, List, [], ◌∷◌, ◌++◌, get_or, codes, reverse, refl, ap, ◌∙◌, arith}
use Rattle.std.specs.List.{list_all}
use Rattle.std.proofs.lemmas.Bool.{and_parts}
use Rattle.httpdate.specs.declared.date.HttpDate.{HttpDate}
use Rattle.httpdate.specs.declared.parts.Parts.{Parts}
use Rattle.httpdate.specs.Date.{date_text}
use Rattle.httpdate.specs.Text.{day_name, four_digits, month_name, time_of_day, two_digits}
use Rattle.sip_lex.specs.Bytes.{is_space}
use Rattle.sip_lex.specs.Values.{begins_with_space, is_line, is_line_byte, is_trimmed, is_value}
use Rattle.sip_text.proofs.laws.Good.{and_both}
use Rattle.sip_via.proofs.laws.Marked.{line-append}
use Rattle.sip_via.proofs.laws.OwnVia.{IsEnd, end-behind}
use Rattle.registrar.specs.Shown.{is_item}
use Rattle.registrar.proofs.Values.{not_false}

-- ---- names and numbers

named : (names : List (List ℕ)) (k : ℕ) → list_all is_item names ≡ true → is_item (get_or names k []) ≡ true
named [] k h = refl
named (name ∷ names) zero h = (and_parts (is_item name) (list_all is_item names) h).0
named (name ∷ names) (suc k) h = named names k (and_parts (is_item name) (list_all is_item names) h).1

digit : (n : ℕ) → is_line_byte (48 + n) ≡ true
digit n = grind arith

two : (n : ℕ) → is_line (two_digits n) ≡ true
two n = and_both (is_line_byte (48 + n / 10)) (is_line ((48 + n % 10) ∷ [])) (digit (n / 10)) (and_both (is_line_byte (48 + n % 10)) true (digit (n % 10)) refl)

four : (n : ℕ) → is_line (four_digits n) ≡ true
four n = line-append (two_digits (n / 100)) (two_digits (n % 100)) (two (n / 100)) (two (n % 100))

abbrev days : List (List ℕ)
days = codes "Mon" ∷ codes "Tue" ∷ codes "Wed" ∷ codes "Thu" ∷ codes "Fri" ∷ codes "Sat" ∷ codes "Sun" ∷ []

abbrev months : List (List ℕ)
months =
    codes "Jan" ∷ codes "Feb" ∷ codes "Mar" ∷ codes "Apr" ∷ codes "May" ∷ codes "Jun"
    ∷ codes "Jul" ∷ codes "Aug" ∷ codes "Sep" ∷ codes "Oct" ∷ codes "Nov" ∷ codes "Dec" ∷ []

day : (n : ℕ) → is_item (day_name n) ≡ true
day n = named days (n - 1) refl

month : (n : ℕ) → is_item (month_name n) ≡ true
month n = named months (n - 1) refl

line_of : (item : List ℕ) → is_item item ≡ true → is_line item ≡ true
line_of item h = (and_parts (is_line item) (not (begins_with_space item)) h).0

time : (p : Parts) → is_line (time_of_day p) ≡ true
time p =
    line-append (two_digits p.hour ++ codes ":" ++ two_digits p.min ++ codes ":") (two_digits p.sec)
    (line-append (two_digits p.hour ++ codes ":" ++ two_digits p.min) (codes ":")
    (line-append (two_digits p.hour ++ codes ":") (two_digits p.min) (line-append (two_digits p.hour) (codes ":") (two p.hour) refl) (two p.min)) refl) (two p.sec)

-- ---- texts within a line that begin without space

record IsBegun (text : List ℕ) : Type 0 where
  line : is_line text ≡ true
  first : ℕ
  rest : List ℕ
  is : text ≡ first ∷ rest
  plain : is_space first ≡ false

begin : (item : List ℕ) → is_item item ≡ true → IsBegun (item ++ codes ", ")
begin [] h = record { line = refl; first = 44; rest = 32 ∷ []; is = refl; plain = refl }
begin (b ∷ item) h =
    let both = and_parts (is_line (b ∷ item)) (not (is_space b)) h in
    record { line = line-append (b ∷ item) (codes ", ") both.0 refl; first = b; rest = item ++ codes ", "; is = refl; plain = not_false (is_space b) both.1 }

add : (text back : List ℕ) → IsBegun text → is_line back ≡ true → IsBegun (text ++ back)
add text back begun h = record {
  line = line-append text back begun.line h;
  first = begun.first;
  rest = begun.rest ++ back;
  is = ap (λ (x : List ℕ). x ++ back) begun.is;
  plain = begun.plain;
}

no_space : (text : List ℕ) → IsBegun text → begins_with_space text ≡ false
no_space text begun = ap begins_with_space begun.is ∙ begun.plain

-- ---- the whole

abbrev dated : Parts → List ℕ
dated p =
    day_name p.wday ++ codes ", " ++ two_digits p.day ++ codes " " ++ month_name p.mon ++ codes " "
    ++ four_digits p.year ++ codes " " ++ time_of_day p

begun : (p : Parts) → IsBegun (dated p)
begun p =
    add _ (time_of_day p) (add _ (codes " ") (add _ (four_digits p.year) (add _ (codes " ") (add _ (month_name p.mon)
    (add _ (codes " ") (add _ (two_digits p.day) (begin (day_name p.wday) (day p.wday)) (two p.day)) refl)
    (line_of (month_name p.mon) (month p.mon))) refl) (four p.year)) refl) (time p)

pub date_value : (date : HttpDate) → is_value (date_text date) ≡ true
date_value date =
    let front = dated date.parts in
    let whole = front ++ codes " GMT" in
    let last : IsEnd (codes " GMT") = record { some = omega arith; ends = refl } in
    let ends = end-behind front (codes " GMT") last in
    let text = add front (codes " GMT") (begun date.parts) refl in
    and_both (is_line whole) (is_trimmed whole) text.line
    (and_both (not (begins_with_space whole)) (not (begins_with_space (reverse whole))) (ap not (no_space whole text)) (ap not ends.ends))
