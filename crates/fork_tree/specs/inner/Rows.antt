-- The branches of a tree in preorder, each with its path from the top: group, place, group, place ..
-- Here: what no public contract reaches.
use Rattle.std.specs.Prelude.{ℕ, suc, Bool, false, not, List, [], ◌∷◌, ◌++◌, map, Option, Some, None, if◌then◌else◌}
use Rattle.fork_tree.specs.declared.summary.BranchState.{BranchState}
use Rattle.fork_tree.specs.declared.row.State.{State}
use Rattle.fork_tree.specs.declared.row.State.TheVariants.{Idle}
use Rattle.fork_tree.specs.States.{has_ended}
use Rattle.fork_tree.specs.Rows.{Cell, Entry, same, find}

abbrev pub pushed : ℕ → Entry → Entry
pushed k e = record { path = k ∷ e.path; cell = e.cell }

-- the branches of several parts, the first of which has this place
abbrev pub joined : ℕ → List (List Entry) → List Entry
joined k [] = []
joined k (part ∷ parts) = map (pushed k) part ++ joined (suc k) parts

abbrev pub is_open_cell : Option Cell → Bool
is_open_cell None = false
is_open_cell (Some cell) = not (has_ended cell.standing.state)

-- a branch stands there that has not ended
abbrev pub open_at : List Entry → List ℕ → Bool
open_at rows path = is_open_cell (find rows path)

-- branches that stand below a path
abbrev pub led : List ℕ → Entry → Entry
led path e = record { path = path ++ e.path; cell = e.cell }

abbrev pub in_standing : BranchState → Cell → Cell
in_standing standing cell = record { number = cell.number; q = cell.q; standing = standing }

-- the branch in this standing, with these below it
abbrev pub changed : Entry → BranchState → List Entry → List Entry
changed e standing below = record { path = e.path; cell = in_standing standing e.cell } ∷ map (led e.path) below

-- the branches, that at this path in this standing and with these below it
abbrev pub with_branch : List Entry → List ℕ → BranchState → List Entry → List Entry
with_branch [] path standing below = []
with_branch (e ∷ es) path standing below =
    (if same e.path path then changed e standing below else e ∷ []) ++ with_branch es path standing below

-- what a branch shows
abbrev pub q_in : Option Cell → ℕ
q_in None = 0
q_in (Some cell) = cell.q

abbrev pub state_in : Option Cell → State
state_in None = Idle
state_in (Some cell) = cell.standing.state
