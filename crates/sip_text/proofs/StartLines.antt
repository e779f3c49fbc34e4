-- Start lines, read and spelled.
use Rattle.sip_text.proofs.Common.{◌≡◌, ℕ, ◌≤◌, true, leb, List, [], ◌∷◌, ◌++◌, Option, Result, Ok, Err, arith, is_ascii_digit, and_parts}
use Rattle.sip_text.proofs.Common.{leb-true, is_space, IsStartLine, is_line, is_start, Fault, after_uri, is_status, is_version, number_of, request_of, response_of, status_of}
use Rattle.sip_text.proofs.Common.{StartText, Response, status_text, common_steps, rules}
use Rattle.sip_text.specs.Reading.{after_version, start_of}
use Rattle.sip_text.proofs.Gaps.{Cut, JoinsAt, cut_joins_at}

abbrev pub done : {A : Type 0} → A → Result A Fault
done x = Ok x

pub ok_is : {A : Type 0} (x y : A) → done x ≡ done y → x ≡ y
ok_is x y e = cc

no_digits : (e : Fault) (s : StartText) (P : Type 0) → Err e ≡ done s → P
no_digits e s P h = absurd cc

-- ---- what is read is spelled so

pub digit_range : (d : ℕ) → is_ascii_digit d ≡ true → (48 ≤ d) × (d ≤ 57)
digit_range d h = let both = and_parts (leb 48 d) (leb d 57) h in (leb-true 48 d both.0, leb-true d 57 both.1)

-- three digits
pub digits_text : (a b c : ℕ) → is_ascii_digit a ≡ true → is_ascii_digit b ≡ true → is_ascii_digit c ≡ true → status_text (number_of a b c) ≡ a ∷ b ∷ c ∷ []
digits_text a b c d e f = grind arith

pub record IsStatus (rest : List ℕ) (s : StartText) : Type 0 where
  pub status : ℕ
  pub gap : ℕ
  pub reason : List ℕ
  pub same : s ≡ Response status reason
  pub whole : rest ≡ status_text status ++ (gap ∷ reason)
  pub gap_is : is_space gap ≡ true
  pub status_is : is_status status ≡ true

status_found : (rest : List ℕ) (s : StartText) → status_of rest ≡ Ok s → IsStatus rest s
status_found rest s read = grind arith

behind_version : (line version : List ℕ) (rest : Option (List ℕ)) (s : StartText) → is_version version ≡ true → JoinsAt is_space line (version, rest) → after_version rest ≡ Ok s → IsStartLine line s
behind_version line version rest s good joins read = search (rules, no_digits, status_found)

response_found : (line : List ℕ) (c : Cut) (s : StartText) → JoinsAt is_space line c → response_of c ≡ Ok s → IsStartLine line s
response_found line c s joins read = grind (arith, behind_version)

uri_found : (line method rest : List ℕ) (gap : ℕ) (c : Cut) (s : StartText) → line ≡ method ++ gap ∷ rest → is_space gap ≡ true → JoinsAt is_space rest c → after_uri method c ≡ Ok s → IsStartLine line s
uri_found line method rest gap c s e g joins read = grind (arith, common_steps)

request_found : (line : List ℕ) (c : Cut) (s : StartText) → JoinsAt is_space line c → request_of c ≡ Ok s → IsStartLine line s
request_found line c s joins read = grind (arith, uri_found, cut_joins_at)

pub start_found : (line : List ℕ) (s : StartText) → start_of line ≡ Ok s → IsStartLine line s
unfolding start_of
start_found line s read = grind (arith, common_steps, response_found, cut_joins_at, request_found)

-- ---- and is such as may be written

pub start_line_good : (line : List ℕ) (s : StartText) → IsStartLine line s → is_line line ≡ true → is_start s ≡ true
start_line_good line s is h = grind (arith, common_steps)
