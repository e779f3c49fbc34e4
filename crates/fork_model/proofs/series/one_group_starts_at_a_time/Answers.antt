use Rattle.fork_model.proofs.laws.OpeningSeries.{one_group_at_a_time}
use Rattle.fork_model.proofs.laws.SeriesLemmas.{one_group_starts}
use Rattle.fork_model.proofs.series.one_group_starts_at_a_time.Goals as goal

pub returns-clause-by_event : goal.returns-clause-by_event
returns-clause-by_event c = one_group_starts

pub returns-clause-always : goal.returns-clause-always
returns-clause-always c = one_group_at_a_time
