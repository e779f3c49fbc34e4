-- The fork that a request opens with, before any target is tried (RFC 3261 section 16.6).
use Rattle.std.specs.Prelude.{false, List, map}
use Rattle.fork_model.specs.Table.{Kind, Rules, Row, Table, Idle}
use Rattle.fork_model.specs.History.{Target, opening_rows}

abbrev pub idled : Row → Row
idled row = record row { state = Idle }

-- the rows of the initial targets before any is tried
abbrev pub waiting_rows : List Target → List Row
waiting_rows targets = map idled (opening_rows targets)

abbrev pub waiting_table : Kind → Rules → List Target → Table
waiting_table kind rules targets = record { kind = kind; rules = rules; closed = false; rows = waiting_rows targets }
