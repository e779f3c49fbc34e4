-- A matched transaction in memory.
use Rattle.call_model.specs.Take as take
use Rattle.call_state.specs.declared.transaction.MatchedTransaction.{MatchedTransaction}
use Rattle.call_state.specs.declared.transaction.MatchedTransaction.TheVariants as match_transaction

abbrev pub seen_recipient : MatchedTransaction → take.MatchedTransaction
seen_recipient match_transaction.Server = take.Server
seen_recipient match_transaction.ServerAck = take.ServerAck
seen_recipient match_transaction.ServerCancel = take.ServerCancel
seen_recipient (match_transaction.Client n) = take.Client n
seen_recipient (match_transaction.CancelClient n) = take.CancelClient n
