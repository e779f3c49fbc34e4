-- The groups of a target set are tried one after the other (RFC 3261 section 16.6): an event starts one group
-- at most.
use Rattle.std.specs.Prelude.{◌≡◌, ℕ, true, false, List, Some, slice_get}
use Rattle.fork_model.specs.Table.{Kind, Rules, Row, Table, is_trying}
use Rattle.fork_model.specs.Event.{Event}
use Rattle.fork_model.specs.Waiting.{may_start, parent_ended}
use Rattle.fork_model.specs.Step.{next}
use Rattle.fork_model.specs.Reply.{has_become}
use Rattle.fork_model.specs.History.{Target, opening, table}

-- between two events: rows stand only below rows that have ended, and no group waits that may start
pub record IsInSeries (t : Table) : Type 0 where
  pub parents : (n : ℕ) (row : Row) → slice_get t.rows n ≡ Some row → parent_ended t.rows row.parent ≡ true
  pub none_waits : (n : ℕ) (row : Row) → slice_get t.rows n ≡ Some row → may_start t.rows row ≡ false

-- the row under this number is tried now, and was not before, or was not there
abbrev pub IsStarted : Table → Table → ℕ → Row → Type 0
IsStarted t u n row = (slice_get u.rows n ≡ Some row) × (has_become is_trying t.rows u.rows n ≡ true)

-- all rows that started stand in one group under one parent
abbrev pub OneGroupStarts : Table → Table → Type 0
OneGroupStarts t u =
    (n m : ℕ) (row other : Row) → IsStarted t u n row → IsStarted t u m other
    → (row.parent ≡ other.parent) × (row.group ≡ other.group)

abbrev pub OpeningIsInSeries : Type 0
OpeningIsInSeries = (kind : Kind) (rules : Rules) (targets : List Target) → IsInSeries (opening kind rules targets)

abbrev pub EventsKeepSeries : Type 0
EventsKeepSeries = (t : Table) (event : Event) (at : ℕ) → IsInSeries t → IsInSeries (next t event at)

abbrev pub AnEventStartsOneGroup : Type 0
AnEventStartsOneGroup = (t : Table) (event : Event) (at : ℕ) → IsInSeries t → OneGroupStarts t (next t event at)

-- whatever has happened before
abbrev pub OneGroupStartsAtATime : Type 0
OneGroupStartsAtATime =
    (kind : Kind) (rules : Rules) (targets : List Target) (events : List Event) (event : Event) (at : ℕ)
    → OneGroupStarts (table kind rules targets events) (next (table kind rules targets events) event at)

-- the rows of one group start together
abbrev pub GroupsStartWhole : Type 0
GroupsStartWhole =
    (t : Table) (event : Event) (at n m : ℕ) (row other : Row) → IsStarted t (next t event at) n row
    → slice_get (next t event at).rows m ≡ Some other → other.parent ≡ row.parent → other.group ≡ row.group
    → IsStarted t (next t event at) m other
