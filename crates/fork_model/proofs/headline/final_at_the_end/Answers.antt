use Rattle.fork_model.proofs.OneFinalLemmas.{final_at_the_end, final_at_the_end_alone}
use Rattle.fork_model.proofs.headline.final_at_the_end.Goals as goal

pub returns-clause-at_the_end : goal.returns-clause-at_the_end
returns-clause-at_the_end c = final_at_the_end

pub returns-clause-alone : goal.returns-clause-alone
returns-clause-alone c = final_at_the_end_alone
