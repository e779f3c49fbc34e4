-- What becomes of what a user has.
use Rattle.std.specs.Prelude.{ℕ, List}

-- a change that is prepared and not made
pub record Prepared (T : Type 0) : Type 0 where
  pub user : List ℕ
  -- what the user has once it is made
  pub bindings : T
  -- for how many more room is taken
  pub reserved : ℕ

abbrev pub bindings_of : {T : Type 0} → Prepared T → T
bindings_of change = change.bindings
