-- Quoted text (quoted-string of RFC 3261 section 25.1).
use Rattle.std.specs.Prelude.{◌≡◌, ℕ, ◌+◌, Bool, false, ◌&&◌, not, List, [], ◌∷◌, ◌++◌, take, drop, Option, Some, None, ◌==◌, if◌then◌else◌}

-- no quote stands in what is inside quotes, but behind a backslash, and no backslash ends it
abbrev pub IsInside : Bool → List ℕ → Type 0
IsInside escaped [] = escaped ≡ false
IsInside escaped (b ∷ bs) = (b == 34 && not escaped ≡ false) × IsInside (not escaped && b == 92) bs

-- the text is a quoted text and a rest
abbrev pub IsQuoted : List ℕ → List ℕ → List ℕ → Type 0
IsQuoted text inside rest = (text ≡ 34 ∷ (inside ++ 34 ∷ rest)) × IsInside false inside

-- where the quote is that ends the text
abbrev pub quoted_len : Bool → List ℕ → ℕ
quoted_len escaped [] = 0
quoted_len escaped (b ∷ bs) = if b == 34 && not escaped then 0 else 1 + quoted_len (not escaped && b == 92) bs

abbrev pub closed_at : List ℕ → List ℕ → Option (List ℕ × List ℕ)
closed_at inside [] = None
closed_at inside (b ∷ rest) = Some (inside, rest)

-- what stands inside the quotes at the front, and what stands behind them
abbrev pub quoted_at : List ℕ → Option (List ℕ × List ℕ)
quoted_at [] = None
quoted_at (b ∷ bs) = if b == 34 then (let n = quoted_len false bs in closed_at (take n bs) (drop n bs)) else None
