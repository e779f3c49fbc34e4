-- A list without an element.
use Rattle.std.specs.Prelude.{◌≡◌, List, [], ◌∷◌, length, refl}
use Rattle.std.proofs.Common.{suc-ne-zero}

pub nothing : {X : Type 0} (xs : List X) → length xs ≡ 0 → xs ≡ []
nothing [] e = refl
nothing (x ∷ xs) e = absurd (suc-ne-zero (length xs) e)
