-- What every event leaves as it was, and how far a table can go: targets are added and never dropped or moved
-- (RFC 3261 section 16.5), each branch goes on and never back, and no table changes without end.
use Rattle.std.specs.Prelude.{◌≡◌, ℕ, ◌+◌, ◌*◌, ◌<◌, ◌≤◌, true, false, List, [], ◌∷◌, length, Some, slice_get, if◌then◌else◌}
use Rattle.fork_model.specs.Table.{Kind, Rules, State, Idle, Trying, Rung, Ended, Row, Table, is_idle, is_ended, most_targets}
use Rattle.fork_model.specs.Event.{Event}
use Rattle.fork_model.specs.Step.{next, is_stray, settled}
use Rattle.fork_model.specs.History.{Target, opening, after}
use Rattle.fork_model.specs.Core.{Core, most_strays, opening_core, core_offered, core_after}

-- how far a branch has come: it waits, it is tried, it has rung, its CANCEL was sent, it has ended
abbrev pub steps_of : State → ℕ
steps_of Idle = 0
steps_of Trying = 1
steps_of (Rung false) = 2
steps_of (Rung true) = 3
steps_of (Ended end) = 4

abbrev pub rows_progress : List Row → ℕ
rows_progress [] = 0
rows_progress (row ∷ rows) = steps_of row.state + rows_progress rows

-- how far all branches have come, and one for a closed table
abbrev pub progress : Table → ℕ
progress t = rows_progress t.rows + (if t.closed then 1 else 0)

-- each row of the earlier list stands in the later one under the same number, and there this holds of the two
abbrev pub EachRow : (Row → Row → Type 0) → List Row → List Row → Type 0
EachRow Holds rows later =
    (n : ℕ) (row : Row) → slice_get rows n ≡ Some row → (new : Row) × (slice_get later n ≡ Some new) × Holds row new

-- the same target at the same place; its state alone may differ
pub record IsSameTarget (row new : Row) : Type 0 where
  pub key : new.key ≡ row.key
  pub q : new.q ≡ row.q
  pub place : new.place ≡ row.place
  pub parent : new.parent ≡ row.parent
  pub group : new.group ≡ row.group

-- a row that has started never waits again, one that has ended keeps its end (the answer stored with it
-- included), and none goes back
pub record IsLaterState (state new : State) : Type 0 where
  pub started : is_idle state ≡ false → is_idle new ≡ false
  pub ended : is_ended state ≡ true → new ≡ state
  pub steps : steps_of state ≤ steps_of new

-- targets are added, and none is dropped, moved or changed; a closed table stays closed
pub record Grows (t u : Table) : Type 0 where
  pub kind : u.kind ≡ t.kind
  pub rules : u.rules ≡ t.rules
  pub closed : t.closed ≡ true → u.closed ≡ true
  pub length : length t.rows ≤ length u.rows
  pub rows : EachRow IsSameTarget t.rows u.rows

abbrev pub GoesOn : Table → Table → Type 0
GoesOn t u = EachRow (λ row new. IsLaterState row.state new.state) t.rows u.rows

abbrev pub RowsKeepTheirNumbers : Type 0
RowsKeepTheirNumbers = (t : Table) (event : Event) (at : ℕ) → Grows t (next t event at)

-- the same after any number of events
abbrev pub RowsAlwaysKeepTheirNumbers : Type 0
RowsAlwaysKeepTheirNumbers = (t : Table) (at : ℕ) (events : List Event) → Grows t (after t at events)

abbrev pub BranchesGoOn : Type 0
BranchesGoOn = (t : Table) (event : Event) (at : ℕ) → GoesOn t (next t event at)

abbrev pub BranchesAlwaysGoOn : Type 0
BranchesAlwaysGoOn = (t : Table) (at : ℕ) (events : List Event) → GoesOn t (after t at events)

-- an event that fits a case moves the table on by a step at least
abbrev pub EventsMakeProgress : Type 0
EventsMakeProgress =
    (t : Table) (event : Event) (at : ℕ) → is_stray t event at ≡ false → progress t < progress (next t event at)

abbrev pub NoEventUndoesProgress : Type 0
NoEventUndoesProgress = (t : Table) (event : Event) (at : ℕ) → progress t ≤ progress (next t event at)

abbrev pub SettlingKeepsProgress : Type 0
SettlingKeepsProgress = (t : Table) → progress t ≤ progress (settled t)

-- four steps for each target, and one for the closing
abbrev pub ProgressIsBounded : Type 0
ProgressIsBounded = (t : Table) → progress t ≤ 4 * length t.rows + 1

abbrev pub FewTargets : Table → Type 0
FewTargets t = length t.rows ≤ most_targets

-- a contact becomes a target only while there are fewer than may be tried
abbrev pub TargetsAreBounded : Type 0
TargetsAreBounded = (t : Table) (event : Event) (at : ℕ) → FewTargets t → FewTargets (next t event at)

-- each initial target has a row, and there are no others
abbrev pub EachTargetHasARow : Type 0
EachTargetHasARow =
    (kind : Kind) (rules : Rules) (targets : List Target) → length (opening kind rules targets).rows ≡ length targets

-- what a context has taken is bounded by its progress, since past the limit it takes no event that changes nothing
abbrev pub IsWithin : Core → Type 0
IsWithin core = core.taken ≤ most_strays + progress core.table

abbrev pub PositionsAreBounded : Type 0
PositionsAreBounded = (core : Core) (event : Event) → IsWithin core → IsWithin (core_offered core event)

-- so however many events are offered, no context takes more than this
abbrev pub most_taken : ℕ
most_taken = most_strays + 4 * most_targets + 1

abbrev pub TakenIsBounded : Type 0
TakenIsBounded =
    (kind : Kind) (rules : Rules) (targets : List Target) (events : List Event)
    → length targets ≤ most_targets
    → (core_after (opening_core kind rules targets) events).taken ≤ most_taken
