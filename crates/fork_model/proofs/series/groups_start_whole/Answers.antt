use Rattle.fork_model.proofs.laws.SeriesLemmas.{groups_whole}
use Rattle.fork_model.proofs.series.groups_start_whole.Goals as goal

pub returns : goal.returns
returns c = groups_whole
