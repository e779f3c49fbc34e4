-- A text as the pieces between its marks.
-- Here: what no public contract reaches.
use Rattle.std.specs.Prelude.{ℕ, List, [], ◌∷◌, Option, Some, None}
use Rattle.std.specs.List.{slice_split}
use Rattle.sip_lex.specs.Cut.{is}

-- of a text that is cut at its first mark
abbrev pub pieces_of : ℕ → List ℕ × Option (List ℕ) → List (List ℕ)
pieces_of mark (front, None) = front ∷ []
pieces_of mark (front, Some back) = front ∷ slice_split (is mark) back
