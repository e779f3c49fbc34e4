use Rattle.fork_call.proofs.Answering.{opened_answer_once}
use Rattle.fork_call.proofs.law.one_final_answer_goes_up.Goals as goal

pub returns : goal.returns
returns c setup number m source call stages opens given leads done not_won none =
    opened_answer_once c.one_final_answer_goes_up.ensures setup number m source call stages opens given leads done not_won none
