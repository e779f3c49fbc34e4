-- Digits: what they are not, and what they make.
use Rattle.sip_via.proofs.Common.{◌≡◌, ℕ, suc, get_or, ◌<◌, ◌^◌, Bool, true, false, not, eqb, List, [], ◌∷◌, refl, ap, ◌∙◌, arith, ◌&&◌, ◌||◌, nat_le, is_ascii_digit, decimal, list_all, AllByRecursion, and_parts, and_from, eqb-true}
use Rattle.sip_via.proofs.Common.{false_from_ne_true, leb-true, digits_decimal, is_space, is_token_byte, is_line_byte, BranchName, IsBranch, branch_text, hex_text, own, common_steps}
use Rattle.sip_branch.proofs.laws.Tokens.{all_pass, decimal_digits}

abbrev pub no_space : ℕ → Bool
no_space b = not (is_space b)

-- ---- bytes from 48 on are neither space nor line ends

abbrev pub is_high : ℕ → Bool
is_high b = nat_le 48 b

not_eq : (b c : ℕ) → c < 48 → is_high b ≡ true → eqb b c ≡ false
not_eq b c low h = false_from_ne_true (eqb b c) (λ e. let x = eqb-true b c e in let y = leb-true 48 b h in omega (arith, x, y, low))

pub high_line : (b : ℕ) → is_high b ≡ true → is_line_byte b ≡ true
high_line b h = ap (λ x. not x && not (eqb b 10)) (not_eq b 13 (omega arith) h) ∙ ap not (not_eq b 10 (omega arith) h)

pub high_no_space : (b : ℕ) → is_high b ≡ true → no_space b ≡ true
high_no_space b h = ap (λ x. not (x || eqb b 9)) (not_eq b 32 (omega arith) h) ∙ ap not (not_eq b 9 (omega arith) h)

digit_high : (b : ℕ) → is_ascii_digit b ≡ true → is_high b ≡ true
digit_high b h = (and_parts (is_high b) (nat_le b 57) h).0

pub hex_text_high : (bytes : List ℕ) → list_all is_high (hex_text bytes) ≡ true
hex_text_high [] = refl
hex_text_high (b ∷ bytes) = grind (arith, hex_text_high bytes)

pub decimal_high : (n : ℕ) → n < 2 ^ 64 → list_all is_high (decimal n) ≡ true
decimal_high n small = all_pass is_ascii_digit is_high (decimal n) digit_high (decimal_digits n small)
