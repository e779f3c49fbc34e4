-- What a contact adds to those that were read before it.
use Rattle.std.specs.Prelude.{◌≡◌, Bool, true, false, List, [], ◌∷◌, ◌++◌, Option, Some, None}
use Rattle.bindings.specs.Bindings.{Asked}

-- it asks for something that can be done, which stands behind them; or for nothing
abbrev pub IsPushed : (asks : Bool) → Option Asked → (old new : List Asked) → Type 0
IsPushed true (Some asked) old new = new ≡ old ++ asked ∷ []
IsPushed true None old new = ⊥
IsPushed false asked old new = asked ≡ None
