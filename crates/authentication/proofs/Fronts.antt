-- The front of a text.
use Rattle.std.proofs.Common.{◌≡◌, ℕ, ◌<◌, ◌≤◌, List, take, length, sym, arith}
use Rattle.std.proofs.lemmas.List.{length-take-le, take_all}

pub long : (text : List ℕ) → 256 < length text → 256 ≡ length (take 256 text)
long text h = sym (length-take-le 256 text (omega (arith, h)))

pub whole : (text : List ℕ) → length text ≤ 256 → text ≡ take 256 text
whole text h = sym (take_all 256 text h)
