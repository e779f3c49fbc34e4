-- The number of a CSeq without a leading zero, as it is written.
use Rattle.sip_build.proofs.Common.{◌≡◌, ℕ, ◌-◌, ◌^◌, Bool, true, false, ◌&&◌, cond, List, length, Option, Some, None, ap, ◌∙◌, arith, cond-false, false≢true, cseq_in, cseq_of_cut, cseq_with, fits_start, StartText, cut, is_space, number_within}
use Rattle.sip_build.proofs.Common.{number_text, or_empty, begins_with_zero}
use Rattle.std.specs.Prelude.{nat_lt}
use Rattle.sip_lex.proofs.laws.Numbers.{number_spelled}

and_false : (b : Bool) → b && false ≡ false
and_false b = grind arith

of_token : (start : StartText) (ds method : List ℕ) (n : ℕ) (token : Bool) → number_within (2 ^ 31 - 1) ds ≡ Some n → begins_with_zero ds ≡ false → fits_start start (cond token (Some (record { number = n; method = method })) None) ≡ true → ds ≡ number_text (cond token (Some (record { number = n; method = method })) None)
of_token start ds method n false read plain fits = absurd (false≢true fits)
of_token start ds method n true read plain fits =
    let short : nat_lt 1 (length ds) && begins_with_zero ds ≡ false = ap (λ b. nat_lt 1 (length ds) && b) plain ∙ and_false (nat_lt 1 (length ds)) in
    (number_spelled (2 ^ 31 - 1) ds n (omega arith) (cond-false _ None (number_within (2 ^ 31 - 1) ds) short ∙ read)).spelled

of_number : (start : StartText) (ds method : List ℕ) (o : Option ℕ) → number_within (2 ^ 31 - 1) ds ≡ o → begins_with_zero ds ≡ false → fits_start start (cseq_with o method) ≡ true → ds ≡ number_text (cseq_with o method)
of_number start ds method o read plain fits = grind (arith, of_token)

of_cut : (start : StartText) (c : List ℕ × Option (List ℕ)) → begins_with_zero c.0 ≡ false → fits_start start (cseq_of_cut c) ≡ true → c.0 ≡ number_text (cseq_of_cut c)
of_cut start c plain fits = grind (arith, of_number)

-- the first CSeq value of a message, or an empty text
pub as-written : (start : StartText) (o : Option (List ℕ)) → begins_with_zero (cut is_space (or_empty o)).0 ≡ false → fits_start start (cseq_in o) ≡ true → (cut is_space (or_empty o)).0 ≡ number_text (cseq_in o)
as-written start o plain fits = grind (arith, of_cut)
