-- What a caller sees of row n.
use Rattle.std.specs.Prelude.{ℕ}
use Rattle.fork_model.specs.Table as spec
use Rattle.fork_context.specs.declared.row.RowView.{RowView}
use Rattle.fork_tree.specs.States.{shown}

abbrev pub row_shown : ℕ → spec.Row → RowView
row_shown n row = record {
  row = record { no = n; parent = row.parent; group = row.group; q = row.q; state = shown row.state };
  place = row.place;
}
