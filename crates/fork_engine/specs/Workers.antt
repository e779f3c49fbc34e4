-- A script with workers: what is forked, and what each worker has happen to it.
use Rattle.std.specs.Prelude.{ℕ, List}
use Rattle.fork_model.specs.Table.{Kind, Rules}
use Rattle.fork_model.specs.Event.{Event}
use Rattle.fork_model.specs.History.{Target}

-- the workers are numbered from 0, in their order; each has its events in their order
pub record Workers : Type 0 where
  pub kind : Kind
  pub rules : Rules
  pub targets : List Target
  pub scripts : List (List Event)

abbrev pub most_workers : ℕ
most_workers = 8
