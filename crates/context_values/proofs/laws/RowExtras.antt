-- What is stored with an answer changes the extras of one row, and adds none.
use Rattle.context_values.proofs.Common.{◌≡◌, ℕ, zero, suc, List, [], ◌∷◌, length, refl, arith, Offer, Challenge, RowExtras, with_row_extras, common_steps}

pub length-with_row_extras : (extras : List RowExtras) (n : ℕ) (left : List Offer) (challenges : List Challenge)
    → length (with_row_extras extras n left challenges) ≡ length extras
length-with_row_extras [] n left challenges = refl
length-with_row_extras (b ∷ extras) zero left challenges = refl
length-with_row_extras (b ∷ extras) (suc n) left challenges = grind (arith, common_steps, length-with_row_extras extras n left challenges)
