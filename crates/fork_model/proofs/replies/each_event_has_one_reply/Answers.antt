use Rattle.fork_model.proofs.Common.{suc, length, Table, next, table}
use Rattle.fork_model.proofs.laws.Arrivals.{next_arrivals, history_of_arrivals}
use Rattle.fork_model.proofs.ComputedReplies.{reply_to, reply_to_is}
use Rattle.fork_model.proofs.laws.OneReplyLemmas.{one_choice, one_reply}
use Rattle.fork_model.proofs.OneOutcome.{one_outcome, one_history}
use Rattle.fork_model.proofs.replies.each_event_has_one_reply.Goals as goal
use Rattle.fork_model.proofs.Common.{common_steps}
use Rattle.fork_model.proofs.Common.{arith}
use Rattle.fork_model.proofs.Common.{rules}

pub returns-clause-some : goal.returns-clause-some
returns-clause-some c t event at = (reply_to t event at, reply_to_is t event at)

pub returns-clause-one : goal.returns-clause-one
returns-clause-one c kind rules targets events event a b x y =
    let t : Table = table kind rules targets events in
    grind (arith, common_steps, one_reply t event (length events), next_arrivals t event (length events) (history_of_arrivals kind rules targets events), one_choice, history_of_arrivals)

pub returns-clause-of_context : goal.returns-clause-of_context
returns-clause-of_context c = one_outcome

pub returns-clause-of_history : goal.returns-clause-of_history
returns-clause-of_history c = one_history
