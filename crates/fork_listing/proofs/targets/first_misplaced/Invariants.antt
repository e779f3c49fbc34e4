use Rattle.fork_listing.proofs.Common.{length, ◌-◌, HoldsBelow, IsPlaced, Holds}
use Rattle.fork_listing.proofs.targets.first_misplaced.Given as goal

abbrev pub invariant-loop-n : goal.invariant-loop-n
invariant-loop-n g l = HoldsBelow (IsPlaced l.rules.depth l.targets) l.n × Holds l.arrivals l.targets l.n

abbrev pub decreases-loop-n : goal.decreases-loop-n
decreases-loop-n g l = length l.targets - l.n
