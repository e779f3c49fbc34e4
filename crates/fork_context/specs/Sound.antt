-- What every response context keeps. Past the limit it takes only events that change its table, and no table changes
-- without end, so its positions are bounded. Its stored answers arrived apart, so that one of them is chosen.
use Rattle.std.specs.Prelude.{◌≤◌, ◌+◌, ℕ, length}
use Rattle.fork_model.specs.Table.{Table, most_targets}
use Rattle.fork_model.specs.Core.{most_strays}
use Rattle.fork_model.specs.OneReply.{AreArrivals}
use Rattle.fork_model.specs.Steps.{progress}
use Rattle.fork_model.specs.Series.{IsInSeries}
use Rattle.fork_context.specs.Closing.{IsClosedWhole}
use Rattle.fork_context.specs.Led.{IsLedTo}

pub record IsSound (table : Table) (taken : ℕ) : Type 0 where
  pub few : length table.rows ≤ most_targets
  pub within : taken ≤ most_strays + progress table
  pub apart : AreArrivals table.rows taken

-- and no group waits that may start; in a closed table no row waits, and each that is to get its CANCEL has got it; and
-- all this came by events
pub record IsKept (table : Table) (taken : ℕ) : Type 0 where
  pub sound : IsSound table taken
  pub led : IsLedTo (record { table = table; taken = taken })
  pub series : IsInSeries table
  pub whole : IsClosedWhole table
