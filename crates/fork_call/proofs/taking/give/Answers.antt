use Rattle.fork_call.proofs.Common.{subst, sym, TakesAs, seen_recipient}
use Rattle.call_model.specs.Take.{Absorbed}
use Rattle.call_state.specs.declared.transaction.MatchedTransaction.{MatchedTransaction}
use Rattle.fork_call.proofs.taking.give.Goals as goal

pub returns-clause-step : goal.returns-clause-step
returns-clause-step g c =
    let T : MatchedTransaction → Type 0 = λ r. TakesAs c.args.state.now c.args.now c.args.message c.args.source (seen_recipient r) Absorbed c.take_cancel_response.new.self in
    subst T (sym c.in-CancelClient.is) (c.take_cancel_response.ensures c.args.message c.args.source c.response_status-status.ensures)
