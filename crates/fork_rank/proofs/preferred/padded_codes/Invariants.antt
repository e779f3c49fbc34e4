use Rattle.fork_rank.proofs.Common.{◌≡◌, ◌-◌, ◌++◌, take}
use Rattle.std.specs.Prelude.{replicate}
use Rattle.fork_rank.specs.Preferred.{most_preferred}
use Rattle.fork_rank.proofs.preferred.padded_codes.Given as goal

-- the statuses up to here, and zeros
abbrev pub invariant-loop-i : goal.invariant-loop-i
invariant-loop-i l = l.codes ≡ take l.i l.statuses ++ replicate (most_preferred - l.i) 0
