use Rattle.fork_model.proofs.OpeningLemmas.{opening_is_unfinished}
use Rattle.fork_model.proofs.headline.opening_is_unfinished.Goals as goal

pub returns : goal.returns
returns c = opening_is_unfinished
