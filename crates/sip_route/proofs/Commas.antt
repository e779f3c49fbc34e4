-- Values with commas between them.
use Rattle.sip_route.proofs.Common.{◌≡◌, ℕ, List, [], ◌∷◌, ◌++◌, ap, join_with_byte, behind_commas, common_steps, arith}

pub joined_commas : (v : List ℕ) (vs : List (List ℕ)) → join_with_byte 44 (v ∷ vs) ≡ v ++ behind_commas vs
joined_commas v [] = grind (arith, common_steps)
joined_commas v (w ∷ vs) = ap (λ (t : List ℕ). v ++ 44 ∷ t) (joined_commas w vs)
