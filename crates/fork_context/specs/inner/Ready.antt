-- What is known once some group that may start was started (RFC 3261 section 16.6).
use Rattle.std.specs.Prelude.{◌≡◌, ◌+◌, ◌⊎◌, ℕ, zero, suc, false, List, [], ◌∷◌, ◌++◌, Some, slice_get}
use Rattle.fork_model.specs.Table.{Row, Table}
use Rattle.fork_model.specs.Waiting.{may_start}
use Rattle.fork_tree.specs.Ready.{IsReady, tried}

-- so many numbers from the first on
abbrev pub numbers_from : ℕ → ℕ → List ℕ
numbers_from first zero = []
numbers_from first (suc count) = numbers_from first count ++ (first + count) ∷ []

-- some group that may start was started, or none may; the numbers are those of its rows
abbrev pub Starts : Table → Table → List ℕ → Type 0
Starts old new numbers =
    (((numbers ≡ []) × (new ≡ old) × ((k : ℕ) (row : Row) → slice_get old.rows k ≡ Some row → may_start old.rows row ≡ false)))
    ⊎ ((first : ℕ) × (count : ℕ) × (numbers ≡ numbers_from first count) × IsReady old.rows first count × (new ≡ record old { rows = tried old.rows first count }))

-- the numbers of the rows that were started so stand behind those of before
pub record AddsStarted (old new : Table) (before after : List ℕ) : Type 0 where
  pub started : List ℕ
  pub joins : after ≡ before ++ started
  pub starts : Starts old new started
