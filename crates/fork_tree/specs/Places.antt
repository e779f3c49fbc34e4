-- A tree's rows by their numbers, and the path to each by its chain of parents.
use Rattle.std.specs.Prelude.{◌≡◌, ◌<◌, ℕ, zero, suc, List, [], ◌∷◌, ◌++◌, length, Option, Some, None, slice_get}
use Rattle.fork_model.specs.Table.{Row, Ended, Never}
use Rattle.fork_tree.specs.declared.place.NodePlace.{NodePlace}
use Rattle.fork_tree.specs.States.{plain_state}
use Rattle.fork_tree.specs.Rows.{Cell, Entry, find}

-- from the top to row n; the number bounds the steps
abbrev pub above : Option ℕ → (ℕ → List ℕ) → List ℕ
above None up = []
above (Some m) up = up m

abbrev pub path_at : Option NodePlace → (ℕ → List ℕ) → List ℕ
path_at None up = []
path_at (Some p) up = above p.parent up ++ p.group ∷ p.place ∷ []

abbrev pub path_to : List NodePlace → ℕ → ℕ → List ℕ
path_to all zero n = []
path_to all (suc steps) n = path_at (slice_get all n) (path_to all steps)

-- no more rows stand above a row than are older
abbrev pub path_of : List NodePlace → ℕ → List ℕ
path_of all n = path_to all (suc n) n

abbrev pub row_at : NodePlace → Option Cell → Row
row_at p None = record { key = []; q = 0; place = 0; parent = p.parent; group = p.group; state = Ended Never }
row_at p (Some c) =
    record { key = []; q = c.q; place = 0; parent = p.parent; group = p.group; state = plain_state c.standing.state }

-- the rows in the order of their numbers, from this one on
abbrev pub rows_from : List NodePlace → List Entry → ℕ → List NodePlace → List Row
rows_from all root k [] = []
rows_from all root k (p ∷ ps) = row_at p (find root (path_of all k)) ∷ rows_from all root (suc k) ps

abbrev pub rows_of : List NodePlace → List Entry → List Row
rows_of all root = rows_from all root 0 all

abbrev pub number_of : Option Cell → Option ℕ
number_of None = None
number_of (Some c) = Some c.number

-- each number's path leads to the node of this number
abbrev pub IsPlaced : List NodePlace → List Entry → Type 0
IsPlaced all root = (n : ℕ) → n < length all → number_of (find root (path_of all n)) ≡ Some n

-- each parent is an older row
abbrev pub AreOlder : List NodePlace → Type 0
AreOlder all = (n : ℕ) (p : NodePlace) (m : ℕ) → slice_get all n ≡ Some p → p.parent ≡ Some m → m < n

-- after this place, where there is one: who isn't the first of a group stands right behind the one before it there
abbrev pub IsBehind : Option NodePlace → NodePlace → Type 0
IsBehind before p = (place : ℕ) → p.place ≡ suc place → before ≡ Some (record { parent = p.parent; group = p.group; place = place })

abbrev pub AllBehind : Option NodePlace → List NodePlace → Type 0
AllBehind before [] = Unit {0}
AllBehind before (p ∷ ps) = IsBehind before p × AllBehind (Some p) ps

-- the rows of a group have numbers in a row
abbrev pub AreTogether : List NodePlace → Type 0
AreTogether all = AllBehind None all
