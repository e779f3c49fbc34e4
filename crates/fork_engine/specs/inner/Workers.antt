-- A script with workers: what is forked, and what each worker has happen to it. Its lines are those of a script without
-- workers, and a line `worker` begins the events of each worker.
-- Here: what no public contract reaches.
use Rattle.std.specs.Prelude.{ℕ, ◌+◌, ◌<◌, ◌≤◌, ◌^◌, List, length, sum_by}
use Rattle.fork_model.specs.Event.{Event}
use Rattle.fork_engine.specs.Workers.{most_workers}
use Rattle.fork_engine.specs.inner.Reading.{Draft}

-- at least one worker, and so many events together that each has a position of 32 bits
pub record AreFew (scripts : List (List Event)) : Type 0 where
  pub some : 0 < length scripts
  pub few : length scripts ≤ most_workers
  pub events : sum_by length scripts < 2 ^ 32

-- how many events were read
abbrev pub event_count : Draft → ℕ
event_count draft = sum_by length draft.before + length draft.last.script.events
