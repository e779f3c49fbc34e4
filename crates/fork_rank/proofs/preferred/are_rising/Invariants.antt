use Rattle.fork_rank.proofs.Common.{length, ◌-◌, ◌≤◌, ◌<◌, ◌+◌, ℕ, slice_index}
use Rattle.fork_rank.proofs.preferred.are_rising.Given as goal

-- the statuses up to here rise
abbrev pub invariant-loop-i : goal.invariant-loop-i
invariant-loop-i l =
    (1 ≤ l.i) × ((k : ℕ) → k + 1 < l.i → k + 1 < length l.statuses → slice_index l.statuses k < slice_index l.statuses (k + 1))

abbrev pub decreases-loop-i : goal.decreases-loop-i
decreases-loop-i l = length l.statuses - l.i
