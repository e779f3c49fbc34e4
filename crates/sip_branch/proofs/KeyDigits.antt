-- Two digits more of a key.
use Rattle.sip_branch.proofs.Common.{◌≡◌, ℕ, List, [], ◌∷◌, get_or, ap, hex_pair}

pub pair_of : (r : List ℕ) (byte : ℕ) → r ≡ hex_pair byte → get_or r 0 0 ∷ get_or r 1 0 ∷ [] ≡ hex_pair byte
pair_of r byte e = ap (λ (x : List ℕ). get_or x 0 0 ∷ get_or x 1 0 ∷ []) e
