-- Two digits more of a tag.
use Rattle.sip_build.proofs.Common.{◌≡◌, ℕ, ◌+◌, ◌*◌, List, [], ◌∷◌, ◌++◌, length, get_or, take, ap, arith, hex_text, common_steps}
use Rattle.sip_lex.specs.HexPair.{hex_pair}

pub tag_done : (front tag digest : List ℕ) (i : ℕ) → i ≡ 8 → length tag ≡ 18 → take (2 * i + 2) tag ≡ front ++ hex_text (take i digest) → tag ≡ front ++ hex_text (take 8 digest)
tag_done front tag digest i end size so = grind (arith, common_steps)

pub pair_of : (r : List ℕ) (byte : ℕ) → r ≡ hex_pair byte → get_or r 0 0 ∷ get_or r 1 0 ∷ [] ≡ hex_pair byte
pair_of r byte e = ap (λ (x : List ℕ). get_or x 0 0 ∷ get_or x 1 0 ∷ []) e
