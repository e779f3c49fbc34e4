-- The rows of a table that closes (RFC 3261 sections 16.7 step 5 and 16.10).
use Rattle.std.specs.Prelude.{◌≡◌, true, List, map}
use Rattle.fork_model.specs.Table.{Kind, Row, Table}
use Rattle.fork_model.specs.Step.{closed_state}

abbrev pub closed_row : Kind → Row → Row
closed_row kind row = record row { state = closed_state kind row.state }

-- no row waits any more, and in an INVITE each that has rung was sent its CANCEL
abbrev pub AreClosed : Kind → List Row → Type 0
AreClosed kind rows = map (closed_row kind) rows ≡ rows

-- where the table is closed
abbrev pub IsClosedWhole : Table → Type 0
IsClosedWhole t = t.closed ≡ true → AreClosed t.kind t.rows
