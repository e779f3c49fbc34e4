-- The laws of a machine that starts.
use Rattle.sip_txn.proofs.Common.{lit≤}
use Rattle.sip_txn.proofs.InviteClientTable.{hands_up_one, unanswered}
use Rattle.sip_txn.proofs.invite_client.InviteClient.start.Goals as goal

pub returns-clause-once : goal.returns-clause-once
returns-clause-once c = hands_up_one _ (lit≤ tt)

pub returns-clause-unanswered : goal.returns-clause-unanswered
returns-clause-unanswered c = rw c.waiting.ensures (unanswered c.args.reliability c.args.now)
