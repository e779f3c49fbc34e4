-- What a caller sees of row n.
-- Here: what no public contract reaches.
use Rattle.std.specs.Prelude.{ℕ}
use Rattle.fork_model.specs.Table as spec
use Rattle.fork_tree.specs.declared.row.RowRef.{RowRef}
use Rattle.fork_tree.specs.States.{shown}

abbrev pub ref_shown : ℕ → spec.Row → RowRef
ref_shown n row = record { no = n; parent = row.parent; group = row.group; q = row.q; state = shown row.state }
