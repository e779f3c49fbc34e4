-- The rules of a line that its parents and the line before it decide, and what is kept of the arrivals before.
use Rattle.std.specs.Prelude.{◌≡◌, ◌≤◌, ◌<◌, ◌⊎◌, ◌↔◌, ℕ, Bool, true, List, Option, Some, None, option_and_then, not}
use Rattle.std.specs.Ordering.{nat_cmp}
use Rattle.std.specs.BTreeSet.{BTreeSet, contains, Updates}
use Rattle.fork_listing.specs.declared.line.ListedTarget.{ListedTarget}
use Rattle.fork_listing.specs.Targets.{arrival_of, ended_at, IsParent, FollowsTarget, line_before, IsEarlier, HasDepth}

abbrev pub FallsTo : Option ListedTarget → ListedTarget → Type 0
FallsTo None target = Unit {0}
FallsTo (Some before) target = (before.parent ≡ target.parent → ⊥) ⊎ (target.q ≤ before.q)

abbrev pub IsShallow : List ListedTarget → Option ℕ → ℕ → Type 0
IsShallow targets parent most = (deep : ℕ) × HasDepth targets parent deep × (deep ≤ most)

abbrev pub IsNear : ℕ → List ListedTarget → ℕ → ListedTarget → Type 0
IsNear most_depth targets n target =
    (target.number ≡ n)
    × IsParent targets n target.parent
    × FollowsTarget targets (line_before targets n) target.parent
    × FallsTo (line_before targets n) target
    × IsEarlier (option_and_then (ended_at targets) target.parent) (arrival_of target.end)
    × IsShallow targets target.parent most_depth

-- an arrival is noted, where there is one; it is new or not
abbrev pub Notes : BTreeSet ℕ → BTreeSet ℕ → Option ℕ → Bool → Type 0
Notes old new None fresh = (new ≡ old) × (fresh ≡ true)
Notes old new (Some arrival) fresh = (fresh ≡ not (contains nat_cmp old arrival)) × Updates nat_cmp old new arrival true

-- the set has the arrivals of the lines before a place
abbrev pub Holds : BTreeSet ℕ → List ListedTarget → ℕ → Type 0
Holds set targets n = (at : ℕ) → (contains nat_cmp set at ≡ true) ↔ ((m : ℕ) × (m < n) × (ended_at targets m ≡ Some at))
