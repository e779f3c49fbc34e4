use Rattle.fork_model.proofs.laws.OrderLemmas.{Before-irrefl, Before-trans, Before-total, ranks_irrefl, ranks_trans, ranks_total_apart}
use Rattle.fork_model.proofs.order.order_is_strict_and_total.Goals as goal

pub returns-clause-irreflexive : goal.returns-clause-irreflexive
returns-clause-irreflexive c = Before-irrefl

pub returns-clause-transitive : goal.returns-clause-transitive
returns-clause-transitive c = Before-trans

pub returns-clause-total : goal.returns-clause-total
returns-clause-total c = Before-total

pub returns-clause-ranks_irreflexive : goal.returns-clause-ranks_irreflexive
returns-clause-ranks_irreflexive c = ranks_irrefl

pub returns-clause-ranks_transitive : goal.returns-clause-ranks_transitive
returns-clause-ranks_transitive c = ranks_trans

pub returns-clause-ranks_total : goal.returns-clause-ranks_total
returns-clause-ranks_total c = ranks_total_apart
