use Rattle.fork_model.proofs.OneFinalLemmas.{rows_stay, nothing_final_follows}
use Rattle.fork_model.proofs.headline.finished_stays.Goals as goal

pub returns-clause-rows_stay : goal.returns-clause-rows_stay
returns-clause-rows_stay c = rows_stay

pub returns-clause-none_follows : goal.returns-clause-none_follows
returns-clause-none_follows c = nothing_final_follows
