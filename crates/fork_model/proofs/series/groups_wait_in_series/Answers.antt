use Rattle.fork_model.proofs.laws.OpeningSeries.{opening_in_series}
use Rattle.fork_model.proofs.laws.SeriesLemmas.{keeps_series}
use Rattle.fork_model.proofs.series.groups_wait_in_series.Goals as goal

pub returns-clause-at_first : goal.returns-clause-at_first
returns-clause-at_first c = opening_in_series

pub returns-clause-by_event : goal.returns-clause-by_event
returns-clause-by_event c = keeps_series
