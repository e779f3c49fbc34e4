use Rattle.fork_model.proofs.laws.Arrivals.{history_of_arrivals}
use Rattle.fork_model.proofs.replies.arrivals_differ.Goals as goal

pub returns : goal.returns
returns c = history_of_arrivals
