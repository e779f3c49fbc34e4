-- A group that may start, and its start (RFC 3261 section 16.6).
use Rattle.std.specs.Prelude.{◌≡◌, ◌<◌, ◌≤◌, ◌+◌, ℕ, zero, suc, true, List, [], ◌∷◌, length, Some, slice_get}
use Rattle.fork_model.specs.Table.{Row, Trying}
use Rattle.fork_model.specs.Waiting.{may_start}

-- these rows, from the first on, are a whole group that may start
pub record IsReady (rows : List Row) (first count : ℕ) : Type 0 where
  pub some : 0 < count
  pub within : first + count ≤ length rows
  pub ready : (k : ℕ) (row : Row) → first ≤ k → k < first + count → slice_get rows k ≡ Some row → may_start rows row ≡ true
  pub whole : (j k : ℕ) (row other : Row) → first ≤ j → j < first + count → slice_get rows j ≡ Some row → slice_get rows k ≡ Some other
      → other.parent ≡ row.parent → other.group ≡ row.group → (first ≤ k) × (k < first + count)

-- the rows, so many of them tried from the first on
abbrev pub tried : List Row → ℕ → ℕ → List Row
tried [] first count = []
tried (row ∷ rows) zero zero = row ∷ rows
tried (row ∷ rows) zero (suc count) = record row { state = Trying } ∷ tried rows zero count
tried (row ∷ rows) (suc first) count = row ∷ tried rows first count
