use Rattle.fork_model.proofs.SourceLemmas.{became_exact}
use Rattle.fork_model.proofs.sources.replies_list_all_that_became.Goals as goal

pub returns : goal.returns
returns c = became_exact
