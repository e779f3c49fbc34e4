-- What the search for a group that may start goes by, and what it finds (RFC 3261 section 16.6).
-- Here: what no public contract reaches.
use Rattle.std.specs.Prelude.{◌≡◌, ◌⊎◌, ◌<◌, ◌≤◌, ℕ, length, Bool, true, false, List, [], ◌∷◌, Option, Some, None, slice_get}
use Rattle.fork_model.specs.Table.{Row, is_idle, most_targets}
use Rattle.fork_model.specs.Waiting.{may_start}
use Rattle.fork_tree.specs.declared.place.NodePlace.{NodePlace}
use Rattle.fork_tree.specs.States.{plain_state, has_ended}
use Rattle.fork_tree.specs.Rows.{Cell, Entry, find}
use Rattle.fork_tree.specs.inner.Rows.{state_in}
use Rattle.fork_tree.specs.Summary.{open_of}
use Rattle.fork_tree.specs.Places.{IsPlaced, AreOlder, AreTogether, number_of}
use Rattle.fork_tree.specs.Listed.{AreListed}
use Rattle.fork_tree.specs.Ready.{IsReady}
use Rattle.fork_tree.specs.inner.Below.{under}
use Rattle.fork_tree.specs.Search.{IsOnWay}

-- the places lead to the nodes, whatever is kept of those
pub record IsShape (all : List NodePlace) (root : List Entry) : Type 0 where
  pub older : AreOlder all
  pub placed : IsPlaced all root
  pub listed : AreListed all root root
  pub sized : length root ≡ length all
  pub few : length all ≤ most_targets
  pub together : AreTogether all

-- ---- what is found among the branches

-- a branch stands there that waits no more
abbrev pub IsStarted : Option Cell → Type 0
IsStarted None = ⊥
IsStarted (Some cell) = is_idle (plain_state cell.standing.state) ≡ false

abbrev pub waits_in : Option Cell → Bool
waits_in None = false
waits_in (Some cell) = is_idle (plain_state cell.standing.state)

-- whether the branch waits, with none below it
abbrev pub IsWaiting : List Entry → Bool → Type 0
IsWaiting rows true =
    (cell : Cell) × (rows ≡ record { path = []; cell = cell } ∷ []) × (is_idle (plain_state cell.standing.state) ≡ true)
IsWaiting rows false = IsStarted (find rows [])

-- so many branches, all of which wait, and the first has this number
pub record AllWait (group : List Entry) (first count : ℕ) : Type 0 where
  pub some : 0 < count
  pub first_there : number_of (find group (0 ∷ [])) ≡ Some first
  pub wait : (place : ℕ) → place < count → waits_in (find group (place ∷ [])) ≡ true
  pub whole : (place : ℕ) (cell : Cell) → find group (place ∷ []) ≡ Some cell → place < count

-- the first branch and the count, where all wait; None where one doesn't
abbrev pub FindsGroup : List Entry → Option (ℕ × ℕ) → Type 0
FindsGroup group (Some g) = AllWait group g.0 g.1
FindsGroup group None = (place : ℕ) × IsStarted (find group (place ∷ []))

-- that of the first group in which, or below which, not all has ended
pub record FindsFirst (rows : List Entry) (result : Option (ℕ × ℕ)) : Type 0 where
  pub group : ℕ
  pub earlier : (j : ℕ) → j < group → open_of (under (j ∷ []) rows) ≡ 0
  pub goes_on : 0 < open_of (under (group ∷ []) rows)
  pub found : FindsGroup (under (group ∷ []) rows) result

-- the same; or all has ended
abbrev pub FindsHere : List Entry → Option (ℕ × ℕ) → Type 0
FindsHere rows (Some g) = FindsFirst rows (Some g)
FindsHere rows None = FindsFirst rows None ⊎ ((j : ℕ) → open_of (under (j ∷ []) rows) ≡ 0)

-- the same right below a branch, which has ended where a group waits there
abbrev pub FindsBelow : List Entry → Option (ℕ × ℕ) → Type 0
FindsBelow node (Some g) = FindsFirst node (Some g) × (has_ended (state_in (find node [])) ≡ true)
FindsBelow node None = FindsHere node None

abbrev pub OrBelow : Option (ℕ × ℕ) → List Entry → Option (ℕ × ℕ) → Type 0
OrBelow None node result = FindsBelow node result
OrBelow (Some g) node result = result ≡ Some g

-- ---- what that says of the rows

-- no row under this parent may start
abbrev pub NoneUnder : List Row → Option ℕ → Type 0
NoneUnder rows parent =
    (k : ℕ) (row : Row) → slice_get rows k ≡ Some row → row.parent ≡ parent → may_start rows row ≡ true → ⊥

-- a group that may start; None where none under this parent may
abbrev pub FindsUnder : List Row → Option ℕ → Option (ℕ × ℕ) → Type 0
FindsUnder rows parent (Some group) = IsReady rows group.0 group.1
FindsUnder rows parent None = NoneUnder rows parent

-- the same; None where none may that is met on this way
abbrev pub FindsOnWay : List Row → Option ℕ → Option (ℕ × ℕ) → Type 0
FindsOnWay rows x (Some group) = IsReady rows group.0 group.1
FindsOnWay rows x None = (parent : Option ℕ) → IsOnWay rows x parent → NoneUnder rows parent

-- the same; None where none may at all
abbrev pub FindsStart : List Row → Option (ℕ × ℕ) → Type 0
FindsStart rows (Some group) = IsReady rows group.0 group.1
FindsStart rows None = (k : ℕ) (row : Row) → slice_get rows k ≡ Some row → may_start rows row ≡ false
