-- A tree once its table is closed.
-- Here: what no public contract reaches.
use Rattle.std.specs.Prelude.{ℕ, zero, suc, List, [], ◌∷◌, map}
use Rattle.fork_tree.specs.declared.summary.BranchState.{BranchState}
use Rattle.fork_tree.specs.inner.States.{closed_state}
use Rattle.fork_tree.specs.Rows.{Entry}
use Rattle.fork_tree.specs.inner.Rows.{in_standing}

abbrev pub closed_standing : BranchState → BranchState
closed_standing s = record { state = closed_state s.state; answer = s.answer }

abbrev pub closed_entry : Entry → Entry
closed_entry e = record { path = e.path; cell = in_standing (closed_standing e.cell.standing) e.cell }

-- the first so many parts closed
abbrev pub closed_to : ℕ → List (List Entry) → List (List Entry)
closed_to zero parts = parts
closed_to (suc i) [] = []
closed_to (suc i) (p ∷ ps) = map closed_entry p ∷ closed_to i ps
