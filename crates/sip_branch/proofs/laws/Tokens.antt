-- Branches are tokens.
use Rattle.sip_branch.proofs.Common.{◌≡◌, ℕ, suc, get_or, ◌<◌, ◌^◌, Bool, true, List, [], ◌∷◌, refl, arith, is_ascii_digit, decimal, list_all, AllByRecursion, and_parts, and_from, digits_decimal, is_token_byte, BranchName, IsBranch, branch_text, hex_text, own, common_steps}

-- what each byte of a list passes that has another property
pub all_pass : (p q : ℕ → Bool) (bs : List ℕ) → ((b : ℕ) → p b ≡ true → q b ≡ true) → list_all p bs ≡ true → list_all q bs ≡ true
all_pass p q [] f h = refl
all_pass p q (b ∷ bs) f h =
    let each = and_parts (p b) (list_all p bs) h in
    and_from (q b) (list_all q bs) (f b each.0) (all_pass p q bs f each.1)

pub decimal_digits : (n : ℕ) → n < 2 ^ 64 → list_all is_ascii_digit (decimal n) ≡ true
decimal_digits n small = digits_decimal own n small

-- ---- a branch is a token

digit_token : (b : ℕ) → is_ascii_digit b ≡ true → is_token_byte b ≡ true
digit_token b h = grind arith

pub key_token : (key : List ℕ) → AllByRecursion (λ byte. byte < 2 ^ 8) key → list_all is_token_byte (hex_text key) ≡ true
key_token [] all = refl
key_token (b ∷ key) all = grind (arith, common_steps, key_token key all.1)

pub dotted : (n : ℕ) → n < 2 ^ 64 → list_all is_token_byte (46 ∷ decimal n) ≡ true
dotted n small = all_pass is_ascii_digit is_token_byte (decimal n) digit_token (decimal_digits n small)

pub branch_token : (b : BranchName) → IsBranch b → list_all is_token_byte (branch_text b) ≡ true
branch_token b is = grind (arith, common_steps, key_token, dotted)

pub all_small : (bs : List ℕ) → ((i : ℕ) → get_or bs i 0 < 2 ^ 8) → AllByRecursion (λ byte. byte < 2 ^ 8) bs
all_small [] h = tt
all_small (b ∷ bs) h = (h 0, all_small bs (λ i. h (suc i)))
