-- A CSeq is read as it was written.
use Rattle.sip_builders.proofs.Common.{◌≡◌, ℕ, ◌-◌, ◌<◌, ◌^◌, Bool, true, false, not, List, [], ◌∷◌, ◌++◌, Option, Some, refl, ap, ◌∙◌, decimal, list_all, and_parts, cond-true, cond-false, false≢true, is_space, is_token, trim_start, cut, number_within, cseq_of}
use Rattle.sip_builders.proofs.Common.{all_pass, decimal_high, high_no_space, is_high, no_space, common_steps, arith}

cut_digits : (ds rest : List ℕ) → list_all no_space ds ≡ true → cut is_space (ds ++ 32 ∷ rest) ≡ (ds, Some rest)
cut_digits [] rest h = refl
cut_digits (d ∷ ds) rest h =
    let each = and_parts (no_space d) (list_all no_space ds) h in
    let plain : is_space d ≡ false = not_is (is_space d) each.0 in
    cond-false (is_space d) ([], Some (ds ++ 32 ∷ rest)) (d ∷ (cut is_space (ds ++ 32 ∷ rest)).0, (cut is_space (ds ++ 32 ∷ rest)).1) plain
    ∙ ap (λ (r : List ℕ × Option (List ℕ)). (d ∷ r.0, r.1)) (cut_digits ds rest each.1)
  where
    not_is : (b : Bool) → not b ≡ true → b ≡ false
    not_is true e = absurd (false≢true e)
    not_is false e = refl

-- a method as a CSeq has it
pub record IsMethod (method : List ℕ) : Type 0 where
  pub token : is_token method ≡ true
  pub trimmed : trim_start method ≡ method

pub cseq_again : (n : ℕ) (method : List ℕ) → IsMethod method → n < 2 ^ 64 → number_within (2 ^ 31 - 1) (decimal n) ≡ Some n → cseq_of (decimal n ++ 32 ∷ method) ≡ Some (record { number = n; method = method })
cseq_again n method is small within = grind (arith, common_steps, all_pass is_high no_space (decimal n) high_no_space (decimal_high n small), is_high, no_space, high_no_space, decimal_high, cut_digits, cond-true)
