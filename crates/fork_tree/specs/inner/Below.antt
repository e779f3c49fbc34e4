-- A row and those below it: what is kept of them, and how many of them have not ended.
-- Here: what no public contract reaches.
use Rattle.std.specs.Prelude.{ℕ, List, [], ◌∷◌, Option, Some, None, eqb, if◌then◌else◌}
use Rattle.fork_tree.specs.Rows.{Entry}

-- the first part of a path taken off, where the path begins so
abbrev pub stripped : List ℕ → List ℕ → Option (List ℕ)
stripped [] path = Some path
stripped (x ∷ xs) [] = None
stripped (x ∷ xs) (y ∷ ys) = if eqb x y then stripped xs ys else None

abbrev pub put_under : Option (List ℕ) → Entry → List Entry → List Entry
put_under None e rest = rest
put_under (Some path) e rest = record { path = path; cell = e.cell } ∷ rest

-- the branch at a path and all that stand below it, with their paths from there
abbrev pub under : List ℕ → List Entry → List Entry
under path [] = []
under path (e ∷ es) = put_under (stripped path e.path) e (under path es)
