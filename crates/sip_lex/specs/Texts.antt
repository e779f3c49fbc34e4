-- Lengths, and texts in pieces.
use Rattle.std.specs.Prelude.{ℕ, ◌-◌, ◌^◌, min, List}
use Rattle.std.specs.Borrow.{Bor}
use Rattle.std.specs.List.{flat_map}

-- a length, as far as a word of 64 bits holds it
abbrev pub saturated : ℕ → ℕ
saturated n = min n (2 ^ 64 - 1)

abbrev pub pieces_text : List (Bor (List ℕ)) → List ℕ
pieces_text ps = flat_map (λ p. p.now) ps
