use Rattle.fork_listing.proofs.Common.{◌≡◌, ◌++◌}
use Rattle.std.specs.Prelude.{drop}
use Rattle.fork_listing.specs.inner.TreeRows.{rows_behind, tree_rows}
use Rattle.fork_listing.proofs.choice.tree_rows.Given as goal

abbrev pub invariant-loop-target : goal.invariant-loop-target
invariant-loop-target g l = l.rows.items ++ rows_behind l.before (drop l.target-index l.targets) ≡ tree_rows l.targets
