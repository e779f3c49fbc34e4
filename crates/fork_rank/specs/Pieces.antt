-- A text as the pieces between its marks.
use Rattle.std.specs.Prelude.{Bool, true, false, List, [], ◌∷◌}

abbrev pub is_empty : {X : Type 0} → List X → Bool
is_empty [] = true
is_empty (x ∷ xs) = false
