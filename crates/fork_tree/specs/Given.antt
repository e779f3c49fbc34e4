-- Rows by number that are those of a tree (RFC 3261 sections 16.5 to 16.7).
use Rattle.std.specs.Prelude.{◌≡◌, ◌<◌, ◌≤◌, ℕ, suc, true, List, [], length, Option, Some, slice_get, if◌then◌else◌}
use Rattle.fork_model.specs.Table.{Row, most_targets}
use Rattle.fork_tree.specs.declared.row.RowRef.{RowRef}
use Rattle.fork_tree.specs.States.{plain_state, has_ended}
use Rattle.fork_tree.specs.NewRows.{differs}

-- the row of a tree that is given so
abbrev pub given_row : RowRef → Row
given_row r =
    record { key = []; q = r.q; place = 0; parent = r.parent; group = r.group; state = plain_state r.state }

-- row m is older than row n, and has ended
pub record IsParent (rows : List RowRef) (n m : ℕ) : Type 0 where
  pub older : m < n
  pub ended : (p : RowRef) → slice_get rows m ≡ Some p → has_ended p.state ≡ true

-- of two rows that stand next to each other under one parent the later one begins another group where its q is another
abbrev pub IsBeside : RowRef → RowRef → Type 0
IsBeside a b = b.group ≡ (if differs (Some a.q) b.q then suc a.group else a.group)

-- no older row has this parent
abbrev pub IsFirstUnder : List RowRef → ℕ → Option ℕ → Type 0
IsFirstUnder rows n parent = (m : ℕ) (r : RowRef) → m < n → slice_get rows m ≡ Some r → r.parent ≡ parent → ⊥

-- each row has its place in the list as its number; its parent is an older one that has ended; the rows under one
-- parent stand together, the initial ones too, in groups that count from 0
pub record AreRows (rows : List RowRef) : Type 0 where
  pub few : length rows ≤ most_targets
  pub number : (n : ℕ) (r : RowRef) → slice_get rows n ≡ Some r → r.no ≡ n
  pub parent : (n m : ℕ) (r : RowRef) → slice_get rows n ≡ Some r → r.parent ≡ Some m → IsParent rows n m
  pub together : (i j k : ℕ) (a b c : RowRef) → i < j → j < k → slice_get rows i ≡ Some a → slice_get rows j ≡ Some b
      → slice_get rows k ≡ Some c → a.parent ≡ c.parent → b.parent ≡ a.parent
  pub first_group : (n : ℕ) (r : RowRef) → slice_get rows n ≡ Some r → IsFirstUnder rows n r.parent → r.group ≡ 0
  pub beside : (n : ℕ) (a b : RowRef) → slice_get rows n ≡ Some a → slice_get rows (suc n) ≡ Some b
      → a.parent ≡ b.parent → IsBeside a b
