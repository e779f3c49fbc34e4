-- The branches of a listing as the rows of a tree.
use Rattle.std.specs.Prelude.{◌+◌, ◌==◌, ℕ, min, nat_eq, List, Option, Some, None, if◌then◌else◌}
use Rattle.std.specs.List.{scan}
use Rattle.std.specs.Option.{option_eq}
use Rattle.fork_tree.specs.declared.row.RowRef.{RowRef}
use Rattle.fork_tree.specs.declared.row.State.TheVariants.{Ended}
use Rattle.fork_listing.specs.declared.line.ListedTarget.{ListedTarget}

-- beside a row, one of another q stands in the next group
abbrev pub group_beside : RowRef → ℕ → ℕ
group_beside before q = if before.q == q then before.group else min (before.group + 1) 65535

-- groups count from 0 under each parent
abbrev pub group_behind : Option RowRef → ListedTarget → ℕ
group_behind None target = 0
group_behind (Some before) target = if option_eq nat_eq before.parent target.parent then group_beside before target.q else 0

-- the row of a branch whose line stands behind that of this one
abbrev pub row_behind : Option RowRef → ListedTarget → RowRef
row_behind before target = record {
  no = target.number;
  parent = target.parent;
  group = group_behind before target;
  q = target.q;
  state = Ended target.end;
}

abbrev pub rows_behind : Option RowRef → List ListedTarget → List RowRef
rows_behind before targets = scan (λ b target. Some (row_behind b target)) row_behind before targets

abbrev pub tree_rows : List ListedTarget → List RowRef
tree_rows targets = rows_behind None targets
