-- Rows by number that are those of a tree (RFC 3261 sections 16.5 to 16.7).
-- Here: what no public contract reaches.
use Rattle.std.specs.Prelude.{◌≡◌, ◌<◌, ◌≤◌, ◌+◌, ℕ, List, [], ◌∷◌, length, map, take, drop, Option, Some, None, IsTrue, slice_get, ◌⊎◌}
use Rattle.fork_model.specs.Table.{Row, Idle, is_row, is_idle}
use Rattle.fork_tree.specs.declared.row.RowRef.{RowRef}
use Rattle.fork_tree.specs.declared.row.State.{State}
use Rattle.fork_tree.specs.States.{plain_state}
use Rattle.fork_tree.specs.Given.{given_row, IsFirstUnder}

-- it waits, or is in this state
abbrev pub IsHalf : Option Row → State → Type 0
IsHalf None state = ⊥
IsHalf (Some row) state = (row.state ≡ Idle) ⊎ (row.state ≡ plain_state state)

abbrev pub waiting : Row → Row
waiting row = record row { state = Idle }

-- a row that stands where it is given, and waits or is in its state
pub record IsHalfRow (row : Row) (given : RowRef) : Type 0 where
  pub shape : waiting row ≡ waiting (given_row given)
  pub half : IsHalf (Some row) given.state

-- so does each row; more may be given
abbrev pub AllHalf : List Row → List RowRef → Type 0
AllHalf [] given = Unit {0}
AllHalf (row ∷ rows) [] = ⊥
AllHalf (row ∷ rows) (g ∷ given) = IsHalfRow row g × AllHalf rows given

abbrev pub q_of : RowRef → ℕ
q_of given = given.q

-- the q of the rows from `first` on that have this parent, as far as they go
pub record IsRun (given : List RowRef) (parent : Option ℕ) (first : ℕ) (qs : List ℕ) : Type 0 where
  pub few : first + length qs ≤ length given
  pub each : qs ≡ map q_of (take (length qs) (drop first given))
  pub all : (n : ℕ) (r : RowRef) → first ≤ n → n < first + length qs → slice_get given n ≡ Some r → r.parent ≡ parent
  pub ends : (r : RowRef) → slice_get given (first + length qs) ≡ Some r → r.parent ≡ parent → ⊥

-- the first of the given rows, up to the end of a run of one parent; those with no row below them wait
pub record IsStanding (rows : List Row) (given : List RowRef) : Type 0 where
  pub half : AllHalf rows given
  pub begun : 0 < length given → 0 < length rows
  pub waits : (n : ℕ) → n < length rows → IsFirstUnder given (length rows) (Some n) → IsTrue (is_row is_idle (slice_get rows n))
  pub cut : (r : RowRef) → slice_get given (length rows) ≡ Some r → IsFirstUnder given (length rows) r.parent
