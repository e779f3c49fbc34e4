use Rattle.fork_model.proofs.laws.OrderLemmas.{Before-decide, Before-between}
use Rattle.fork_model.proofs.order.first_can_be_kept.Goals as goal

pub returns-clause-decided : goal.returns-clause-decided
returns-clause-decided c = Before-decide

pub returns-clause-before_the_rest : goal.returns-clause-before_the_rest
returns-clause-before_the_rest c = Before-between
