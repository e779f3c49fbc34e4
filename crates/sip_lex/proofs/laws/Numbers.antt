-- A number is read exactly where it is the decimal spelling of a number within the limit.
use Rattle.sip_lex.proofs.Common.{◌≡◌, ℕ, zero, suc, ◌^◌, ◌<◌, ◌≤◌, Bool, true, false, cond, List, length, get_or, fold, Option, Some, None, sym, ap, ◌∙◌, arith, list_all, and_parts, lt-ltb, Lacks, with_digit, number}
use Rattle.std.proofs.Common.{rules}
use Rattle.std.specs.Prelude.{◌&&◌, nat_lt, nat_le}
use Rattle.std.specs.Char.{is_ascii_digit}
use Rattle.std.specs.Fmt.{decimal}
use Rattle.std.proofs.lemmas.Bool.{and_from, ltb-true, leb-true}
use Rattle.std.proofs.lemmas.Option.{cond_some}
use Rattle.std.proofs.lemmas.Str.Parse.{IsNumeralModel, IsDigitsTest, FoldsDigits, numerals_by_fold}
use Rattle.std.proofs.lemmas.Fmt.{decimal_digit, first_decimal, digits_decimal, digits_value-decimal, decimal-digits_value, decimal_nonempty}
use Rattle.sip_lex.specs.Number.{is_number, number_within, begins_with_zero, plain_number_within}
use Rattle.sip_lex.proofs.laws.Cuts.{Lacks-pass}

digits_test : IsDigitsTest (λ ds. list_all is_ascii_digit ds ≡ true)
digits_test = search rules

folds : FoldsDigits (λ n ds. fold with_digit n ds)
folds = search rules

-- so the numerals of std are these: its lemmas on `decimal` hold of them
pub own : IsNumeralModel (λ ds. list_all is_ascii_digit ds ≡ true) number
own = numerals_by_fold _ digits_test (λ n ds. fold with_digit n ds) folds

pub decimal_lacks : (mark n : ℕ) → is_ascii_digit mark ≡ false → n < 2 ^ 64 → Lacks mark (decimal n)
decimal_lacks mark n no_digit small = Lacks-pass is_ascii_digit mark (decimal n) no_digit (digits_decimal own n small)

-- what is spelled is read
is_number-decimal : (n : ℕ) → n < 2 ^ 64 → is_number (decimal n) ≡ true
is_number-decimal n small = and_from _ _ (lt-ltb _ _ (decimal_nonempty n small)) (digits_decimal own n small)

leading : (ds : List ℕ) → nat_lt 1 (length ds) && begins_with_zero ds ≡ true → (1 < length ds) × (get_or ds 0 0 ≡ 48)
leading ds e = grind arith

not_leading : (n : ℕ) → n < 2 ^ 64 → nat_lt 1 (length (decimal n)) && begins_with_zero (decimal n) ≡ false
not_leading zero small = ap (λ ds. nat_lt 1 (length ds) && begins_with_zero ds) (decimal_digit 0 (omega arith))
not_leading (suc n) small = grind (arith, first_decimal, leading)

fits : (limit n : ℕ) → n ≤ limit → n < 2 ^ 64 → number_within limit (decimal n) ≡ Some n
fits limit n within small = grind (arith, digits_value-decimal, own, is_number-decimal)

pub number_read : (limit n : ℕ) → n ≤ limit → n < 2 ^ 64 → plain_number_within limit (decimal n) ≡ Some n
number_read limit n within small =
    ap (λ t. cond t None (number_within limit (decimal n))) (not_leading n small) ∙ fits limit n within small

-- what is read is spelled so
pub record IsSpelled (limit : ℕ) (ds : List ℕ) (n : ℕ) : Type 0 where
  pub spelled : ds ≡ decimal n
  pub within : n ≤ limit

cond_none : (b : Bool) (r : Option ℕ) (n : ℕ) → cond b None r ≡ Some n → (b ≡ false) × (r ≡ Some n)
cond_none b r n e = grind arith

zero_alone : (ds : List ℕ) → nat_lt 1 (length ds) && begins_with_zero ds ≡ false → get_or ds 0 0 ≡ 48 → 0 < length ds → length ds ≡ 1
zero_alone ds e z more = grind arith

pub number_spelled : (limit : ℕ) (ds : List ℕ) (n : ℕ) → limit < 2 ^ 64 → plain_number_within limit ds ≡ Some n → IsSpelled limit ds n
number_spelled limit ds n small e =
    let plain = cond_none (nat_lt 1 (length ds) && begins_with_zero ds) (number_within limit ds) n e in
    let read = cond_some (is_number ds && nat_le (number ds) limit) (number ds) n plain.1 in
    let tests = and_parts (is_number ds) (nat_le (number ds) limit) read.0 in
    let digits = and_parts (nat_lt 0 (length ds)) (list_all is_ascii_digit ds) tests.0 in
    let within : number ds ≤ limit = leb-true _ _ tests.1 in
    let some : 0 < length ds = ltb-true _ _ digits.0 in
    let back : decimal (number ds) ≡ ds = decimal-digits_value own ds digits.1 some (λ z. zero_alone ds plain.0 z some) (omega arith) in
    record { spelled = sym back ∙ ap decimal read.1; within = omega arith }

-- a number that is read, in digits with zeros before them too, is read again from its decimal spelling
pub number_read_within : (limit : ℕ) (ds : List ℕ) (n : ℕ) → limit < 2 ^ 64 → number_within limit ds ≡ Some n → (n < 2 ^ 64) × (number_within limit (decimal n) ≡ Some n)
number_read_within limit ds n small e =
    let read = cond_some (is_number ds && nat_le (number ds) limit) (number ds) n e in
    let tests = and_parts (is_number ds) (nat_le (number ds) limit) read.0 in
    let within : number ds ≤ limit = leb-true _ _ tests.1 in
    let fit : n < 2 ^ 64 = omega (arith, read.1) in
    (fit, fits limit n (omega (arith, read.1)) fit)
