-- What a check of a listing answers: it is right, or the first fault in the order in which they are looked for.
use Rattle.std.specs.Prelude.{◌≡◌, ◌+◌, ℕ, Some, Result, Ok, Err, length}
use Rattle.fork_listing.specs.declared.line.Version.{Version}
use Rattle.fork_listing.specs.declared.line.Version.TheVariants.{First, Second, Third}
use Rattle.fork_listing.specs.declared.refusal.Verdict.{Verdict}
use Rattle.fork_listing.specs.declared.refusal.CheckFault.{CheckFault}
use Rattle.fork_listing.specs.declared.refusal.CheckFault.TheVariants.{Line, Tree, Order, Absent, FinalLine, NoMemory}
use Rattle.fork_listing.specs.First.{HoldsBelow, IsFirstToFail}
use Rattle.fork_listing.specs.Targets.{IsPlaced}
use Rattle.fork_listing.specs.Ranks.{IsOrdered, IsListed, IsChosen, IsNotChosen}
use Rattle.fork_listing.specs.Text.{Listing}

-- each branch stands as it may, the answers stored are those listed, in order of rank, and that which goes up is the
-- choice among them
abbrev pub AreBranches : Listing → Type 0
AreBranches l = HoldsBelow (IsPlaced l.rules.depth l.targets) (length l.targets)

abbrev pub AreInOrder : Listing → Type 0
AreInOrder l = HoldsBelow (IsOrdered l.rules l.targets l.ranks) (length l.ranks)

abbrev pub AreListed : Listing → Type 0
AreListed l = HoldsBelow (IsListed l.targets l.ranks) (length l.targets)

abbrev pub IsRight : Listing → Type 0
IsRight l = AreBranches l × AreInOrder l × AreListed l × IsChosen l.rules l.targets l.last

-- the number of the first target's line
abbrev pub first_target : Version → ℕ
first_target First = 2
first_target Second = 3
first_target Third = 4

abbrev pub verdict_of : Listing → Verdict
verdict_of l = record { targets = l.count; status = l.last.status; no = l.last.number }

-- of a text that is a listing
abbrev pub IsVerdictOf : Listing → Result Verdict CheckFault → Type 0
IsVerdictOf l (Ok verdict) = IsRight l × (verdict ≡ verdict_of l)
IsVerdictOf l (Err (Line n)) = ⊥
IsVerdictOf l (Err (Tree n)) =
    (k : ℕ) × IsFirstToFail (IsPlaced l.rules.depth l.targets) (length l.targets) (Some k) × (n ≡ first_target l.version + k)
IsVerdictOf l (Err (Order n)) =
    AreBranches l
    × (k : ℕ) × IsFirstToFail (IsOrdered l.rules l.targets l.ranks) (length l.ranks) (Some k)
    × (n ≡ first_target l.version + l.count + k)
IsVerdictOf l (Err (Absent n)) =
    AreBranches l × AreInOrder l × IsFirstToFail (IsListed l.targets l.ranks) (length l.targets) (Some n)
IsVerdictOf l (Err FinalLine) = AreBranches l × AreInOrder l × AreListed l × IsNotChosen l.rules l.targets l.last
IsVerdictOf l (Err NoMemory) = Unit {0}

-- of a text that is none: the number of its first line that is not of the form due in its place
abbrev pub IsLineFault : ℕ → Result Verdict CheckFault → Type 0
IsLineFault number (Err (Line n)) = n ≡ number
IsLineFault number (Err NoMemory) = Unit {0}
IsLineFault number _ = ⊥

abbrev pub IsChecked : Result Listing ℕ → Result Verdict CheckFault → Type 0
IsChecked (Ok l) result = IsVerdictOf l result
IsChecked (Err number) result = IsLineFault number result
