-- Which branches may stand in a listing, line by line: what a fork can come to (RFC 3261 sections 16.5 to 16.7).
use Rattle.std.specs.Prelude.{◌≡◌, ◌<◌, ◌≤◌, ◌⊎◌, ℕ, zero, suc, ◌&&◌, nat_lt, Bool, true, false, List, Option, Some, None, slice_get, option_and_then}
use Rattle.fork_tree.specs.declared.row.End.{End}
use Rattle.fork_tree.specs.declared.row.End.TheVariants.{Stored, Taken, Silent, Never, Accepted}
use Rattle.fork_listing.specs.declared.line.ListedTarget.{ListedTarget}

-- the position of the event that ended a branch
abbrev pub arrival_of : End → Option ℕ
arrival_of (Stored status arrival received) = Some arrival
arrival_of (Taken arrival) = Some arrival
arrival_of (Silent arrival) = Some arrival
arrival_of Never = None
arrival_of (Accepted arrival) = Some arrival

abbrev pub ended_at : List ListedTarget → ℕ → Option ℕ
ended_at targets n = option_and_then (λ (target : ListedTarget). arrival_of target.end) (slice_get targets n)

-- a 3xx, all of whose contacts were taken or that is stored as it was received
abbrev pub is_redirection : End → Bool
is_redirection (Stored status arrival received) = received && nat_lt status 400
is_redirection (Taken arrival) = true
is_redirection (Silent arrival) = false
is_redirection Never = false
is_redirection (Accepted arrival) = false

abbrev pub is_redirected : Option ListedTarget → Bool
is_redirected None = false
is_redirected (Some target) = is_redirection target.end

-- a branch stands under none, or under an earlier one that was redirected
abbrev pub IsParent : List ListedTarget → ℕ → Option ℕ → Type 0
IsParent targets n None = Unit {0}
IsParent targets n (Some parent) = (parent < n) × (is_redirected (slice_get targets parent) ≡ true)

abbrev pub IsBefore : Option ℕ → Option ℕ → Type 0
IsBefore None b = ⊥
IsBefore (Some a) None = ⊥
IsBefore (Some a) (Some b) = a < b

-- from one line to the next: initial targets come first, then those under one parent, then those under a parent that
-- was redirected later
abbrev pub Follows : List ListedTarget → Option ℕ → Option ℕ → Type 0
Follows targets None parent = Unit {0}
Follows targets (Some before) None = ⊥
Follows targets (Some before) (Some parent) = (before ≡ parent) ⊎ IsBefore (ended_at targets before) (ended_at targets parent)

abbrev pub FollowsTarget : List ListedTarget → Option ListedTarget → Option ℕ → Type 0
FollowsTarget targets None parent = Unit {0}
FollowsTarget targets (Some before) parent = Follows targets before.parent parent

abbrev pub line_before : List ListedTarget → ℕ → Option ListedTarget
line_before targets zero = None
line_before targets (suc n) = slice_get targets n

-- where both are known, the first is less
abbrev pub IsEarlier : Option ℕ → Option ℕ → Type 0
IsEarlier None b = Unit {0}
IsEarlier (Some a) None = Unit {0}
IsEarlier (Some a) (Some b) = a < b

-- a branch under none has depth 0, another its parent's and one
abbrev pub HasDepth : List ListedTarget → Option ℕ → ℕ → Type 0
HasDepth targets None zero = Unit {0}
HasDepth targets None (suc depth) = ⊥
HasDepth targets (Some parent) zero = ⊥
HasDepth targets (Some parent) (suc depth) =
    (target : ListedTarget) × (slice_get targets parent ≡ Some target) × HasDepth targets target.parent depth

-- the line at a place keeps each rule with the lines before it
pub record IsInPlace (most_depth : ℕ) (targets : List ListedTarget) (n : ℕ) (target : ListedTarget) : Type 0 where
  pub number : target.number ≡ n
  pub parent : IsParent targets n target.parent
  pub follows : FollowsTarget targets (line_before targets n) target.parent
  -- under one parent q does not rise
  pub falls : (m : ℕ) (other : ListedTarget) → m < n → slice_get targets m ≡ Some other → other.parent ≡ target.parent → target.q ≤ other.q
  -- each branch ends by an event of its own, after its parent
  pub apart : (m at : ℕ) → m < n → ended_at targets m ≡ Some at → arrival_of target.end ≡ Some at → ⊥
  pub later : IsEarlier (option_and_then (ended_at targets) target.parent) (arrival_of target.end)
  -- contacts are tried as deep as the rules allow
  pub depth : (deep : ℕ) × HasDepth targets target.parent deep × (deep ≤ most_depth)

abbrev pub IsPlaced : ℕ → List ListedTarget → ℕ → Type 0
IsPlaced most_depth targets n = (target : ListedTarget) → slice_get targets n ≡ Some target → IsInPlace most_depth targets n target
