-- Where a response context comes from: the events that were offered to it have led it here (RFC 3261 sections 16.5 to
-- 16.10).
use Rattle.std.specs.Prelude.{◌≡◌, ◌≢◌, ◌≤◌, List, [], length}
use Rattle.std.specs.List.{AllByRecursion}
use Rattle.fork_rank.specs.Preferred.{IsPreferredList}
use Rattle.fork_model.specs.Table.{Kind, Rules, most_targets}
use Rattle.fork_model.specs.Event.{Event}
use Rattle.fork_model.specs.History.{Target}
use Rattle.fork_model.specs.Range.{IsTargetInRange, IsEventInRange}
use Rattle.fork_model.specs.Core.{Core, opening_core, core_after}

-- rules that an operator may set
pub record AreRules (rules : Rules) : Type 0 where
  pub preferred : IsPreferredList rules.preferred
  pub depth : rules.depth ≤ most_targets

-- it was opened for some targets, few enough, and these events were offered to it since
pub record IsLedTo (core : Core) : Type 0 where
  pub kind : Kind
  pub rules : Rules
  pub targets : List Target
  pub events : List Event
  pub some : targets ≢ []
  pub few : length targets ≤ most_targets
  pub set : AreRules rules
  pub targets_in_range : AllByRecursion IsTargetInRange targets
  pub events_in_range : AllByRecursion IsEventInRange events
  pub led : core ≡ core_after (opening_core kind rules targets) events
