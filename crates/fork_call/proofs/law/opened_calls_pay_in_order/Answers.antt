use Rattle.fork_call.proofs.Answering.{opened_pay}
use Rattle.fork_call.proofs.law.opened_calls_pay_in_order.Goals as goal

pub returns : goal.returns
returns c setup number m source call stages opens given leads = opened_pay c.calls_pay_in_order.ensures setup number m source call stages opens given leads
