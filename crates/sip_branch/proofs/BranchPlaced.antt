-- A branch parameter that was written from its end to its front.
use Rattle.sip_branch.proofs.Common.{◌≡◌, ℕ, List, [], ◌∷◌, ◌++◌, decimal, BranchName, branch_text, cookie, hex_text, common_steps, arith}

pub placed : (b : BranchName) (all behind_cookie behind_key behind_instance behind_context rest digits : List ℕ) (instance target : ℕ) → all ≡ cookie ++ behind_cookie → behind_cookie ≡ digits ++ behind_key → digits ≡ hex_text b.key → behind_key ≡ 46 ∷ (decimal instance ++ behind_instance) → instance ≡ b.instance → behind_instance ≡ 46 ∷ (decimal b.context ++ behind_context) → behind_context ≡ 46 ∷ (decimal target ++ rest) → target ≡ b.target → rest ≡ [] → all ≡ branch_text b
placed b all behind_cookie behind_key behind_instance behind_context rest digits instance target e4 e3 key e2 first e1 e0 last none = grind (arith, common_steps)
