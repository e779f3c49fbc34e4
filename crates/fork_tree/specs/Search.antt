-- What the search for a group that may start goes by, and what it finds (RFC 3261 section 16.6).
use Rattle.std.specs.Prelude.{◌≡◌, ◌⊎◌, ◌<◌, ℕ, true, List, [], ◌∷◌, Option, Some, None, slice_get}
use Rattle.fork_model.specs.Table.{Row}
use Rattle.fork_model.specs.Waiting.{may_start}
use Rattle.fork_tree.specs.Below.{lies_below}

-- ---- where a group may have come to start

-- a row under this parent stands at or above row n
pub record IsOver (rows : List Row) (n : ℕ) (parent : Option ℕ) : Type 0 where
  pub number : ℕ
  pub row : Row
  pub there : slice_get rows number ≡ Some row
  pub beside : row.parent ≡ parent
  pub below : lies_below rows number n ≡ true

-- the rows under this parent stand right below the row, beside it, or beside one above it; of no row: at the top
abbrev pub IsOnWay : List Row → Option ℕ → Option ℕ → Type 0
IsOnWay rows None parent = parent ≡ None
IsOnWay rows (Some n) parent = (parent ≡ Some n) ⊎ IsOver rows n parent

abbrev pub IsMet : List Row → List (Option ℕ) → Option ℕ → Type 0
IsMet rows [] parent = ⊥
IsMet rows (x ∷ recent) parent = IsOnWay rows x parent ⊎ IsMet rows recent parent

-- each row that may start is met on the way up from one of these
abbrev pub AreMet : List Row → List (Option ℕ) → Type 0
AreMet rows recent =
    (k : ℕ) (row : Row) → slice_get rows k ≡ Some row → may_start rows row ≡ true → IsMet rows recent row.parent

-- there is this row; or none is meant
abbrev pub IsKnown : ℕ → Option ℕ → Type 0
IsKnown count None = Unit {0}
IsKnown count (Some n) = n < count

abbrev pub AreKnown : ℕ → List (Option ℕ) → Type 0
AreKnown count [] = Unit {0}
AreKnown count (x ∷ recent) = IsKnown count x × AreKnown count recent
