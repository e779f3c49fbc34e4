-- What holds of every fork: the extras of each row, and whether a 2xx came.
use Rattle.std.specs.Prelude.{◌≡◌, ◌≤◌, Bool, true, false, List, length, map}
use Rattle.fork_model.specs.Table.{Row, most_targets, is_succeeded}
use Rattle.fork_tree.specs.Tree.{plain_row}
use Rattle.fork_tree.specs.declared.row.End.{End}
use Rattle.fork_tree.specs.declared.row.End.TheVariants as end
use Rattle.context_values.specs.RowExtras.{RowExtras}

pub record IsFork (rows : List Row) (extras : List RowExtras) (succeeded : Bool) : Type 0 where
  pub is_plain : map plain_row rows ≡ rows
  pub each : length extras ≡ length rows
  pub few : length rows ≤ most_targets
  pub succeeds : succeeded ≡ is_succeeded rows

-- the end is that of a 2xx
abbrev pub accepts_end : End → Bool
accepts_end (end.Stored status arrival received) = false
accepts_end (end.Taken arrival) = false
accepts_end (end.Silent arrival) = false
accepts_end end.Never = false
accepts_end (end.Accepted arrival) = true
