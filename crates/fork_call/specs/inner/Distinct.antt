-- Targets that a fork may be opened to (RFC 3261 section 16.5).
-- Here: what no public contract reaches.
use Rattle.std.specs.Prelude.{◌≤◌, ℕ, List, length}
use Rattle.fork_model.specs.Table.{most_targets}
use Rattle.fork_context.specs.Refusals.{HasTwice}
use Rattle.proxy_routing.specs.Targets.{CandidateTarget, targets_of}

-- no more than may be tried, and none twice
pub record AreDistinct (cs : List CandidateTarget) : Type 0 where
  pub few : length (targets_of cs) ≤ most_targets
  pub apart : HasTwice (targets_of cs) → ⊥
