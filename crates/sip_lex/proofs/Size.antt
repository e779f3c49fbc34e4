-- The measure of a loop over what stands behind marks.
use Rattle.std.proofs.Common.{ℕ, ◌+◌, List, length, Option, Some, None}

-- how much text is left
abbrev pub size : Option (List ℕ) → ℕ
size None = 0
size (Some text) = 1 + length text
