-- The laws of a machine that starts.
use Rattle.sip_txn.proofs.Common.{lit≤}
use Rattle.sip_txn.proofs.InviteServerTable.{hands_up_one, unacknowledged}
use Rattle.sip_txn.proofs.invite_server.InviteServer.start.Goals as goal

pub returns-clause-once : goal.returns-clause-once
returns-clause-once c = hands_up_one _ (lit≤ tt)

pub returns-clause-unacknowledged : goal.returns-clause-unacknowledged
returns-clause-unacknowledged c = rw c.none.ensures (unacknowledged c.args.reliability)
