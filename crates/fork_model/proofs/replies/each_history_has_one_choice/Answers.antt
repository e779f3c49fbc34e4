use Rattle.fork_model.proofs.Common.{length, table}
use Rattle.fork_model.proofs.laws.Arrivals.{history_of_arrivals}
use Rattle.fork_model.proofs.FirstStored.{choice_of, choice_of_is}
use Rattle.fork_model.proofs.laws.OneReplyLemmas.{one_choice}
use Rattle.fork_model.proofs.replies.each_history_has_one_choice.Goals as goal

pub returns-clause-some : goal.returns-clause-some
returns-clause-some c rules rows = (choice_of rules rows, choice_of_is rules rows)

pub returns-clause-one : goal.returns-clause-one
returns-clause-one c kind rules targets events a b x y =
    one_choice rules (table kind rules targets events).rows (length events) (history_of_arrivals kind rules targets events) a b x y
