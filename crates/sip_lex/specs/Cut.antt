-- Cutting a text in two at its first mark.
use Rattle.std.specs.Prelude.{◌≢◌, ℕ, Bool, List, [], ◌∷◌, Option, Some, None, ◌==◌, if◌then◌else◌}
use Rattle.std.specs.Borrow.{Bor}
use Rattle.std.specs.List.{AllByRecursion}
use Rattle.std.specs.Option.{option_copied}

-- what stands before the first byte that passes, and what stands after it, if there is one
abbrev pub cut : (ℕ → Bool) → List ℕ → List ℕ × Option (List ℕ)
cut p [] = ([], None)
cut p (b ∷ bs) = if p b then ([], Some bs) else (b ∷ (cut p bs).0, (cut p bs).1)

-- the test for one byte
abbrev pub is : ℕ → ℕ → Bool
is mark b = b == mark

-- a part behind its mark, if there is one
abbrev pub behind : ℕ → Option (List ℕ) → List ℕ
behind mark None = []
behind mark (Some part) = mark ∷ part

-- the mark stands nowhere in the text
abbrev pub Lacks : ℕ → List ℕ → Type 0
Lacks mark bs = AllByRecursion (λ b. b ≢ mark) bs

-- a cut in memory, as lists
abbrev pub seen_cut : Bor (List ℕ) × Option (Bor (List ℕ)) → List ℕ × Option (List ℕ)
seen_cut c = (c.0.now, option_copied c.1)
