-- A stand-in tree: its rows.
use Rattle.std.specs.Prelude.{[]}
use Rattle.fork_model.specs.Table.{Row}
use Rattle.fork_tree.specs.declared.row.RowRef.{RowRef}
use Rattle.fork_tree.specs.States.{plain_state}

abbrev pub tree_row : RowRef → Row
tree_row r = record { key = []; q = r.q; place = 0; parent = r.parent; group = r.group; state = plain_state r.state }
