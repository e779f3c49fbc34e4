-- The second that a stamp says.
use Rattle.sip_digest.proofs.Common.{◌≡◌, ℕ, ◌<◌, ◌^◌, ◌≤◌, List, ◌++◌, length, take, ap, ◌∙◌, arith, rules}
use Rattle.std.proofs.Common.{Ok}
use Rattle.std.specs.Int.{w32, to_be_bytes}
use Rattle.hex.specs.Hex.{decode_sized, encode_with, lower_digits}
use Rattle.hex.proofs.HexLemmas.{IsDigits-lower_digits, decode_pairs-encode_with}
use Rattle.sip_digest.specs.Stamp.{second_text}

-- the digits of a second are read as its bytes
pub read_back : (text back : List ℕ) (second : ℕ) → second < 2 ^ 32 → text ≡ second_text second ++ back → decode_sized (take 8 text) 4 ≡ Ok (to_be_bytes w32 second)
unfolding encode_with
read_back text back second fits e =
    ap (λ (t : List ℕ). decode_sized (take 8 t) 4) e
    ∙ decode_pairs-encode_with lower_digits IsDigits-lower_digits 0 (to_be_bytes w32 second) (search rules)

-- and are eight
pub long_enough : (text back : List ℕ) (second : ℕ) → text ≡ second_text second ++ back → 8 ≤ length text
unfolding encode_with
long_enough text back second e = omega (arith, ap length e)
