-- The row that the table lists keeps which timers run.
use Rattle.sip_txn.proofs.Common.{sym, subst, Machine, OtherServerState}
use Rattle.sip_txn.specs.OtherServer.{RunsTimersOf}
use Rattle.sip_txn.proofs.OtherServerTable.{keeps_all}
use Rattle.sip_txn.proofs.other_server.OtherServer.on.Goals as goal

pub invariant_of-self : goal.invariant_of-self
invariant_of-self c =
    let IsKept : Machine OtherServerState → Type 0 = λ m. RunsTimersOf m.reliability m.state m.timers in
    subst IsKept (sym c.follow.ensures.next) (rw c.listed-row.ensures (keeps_all _ _ _ c.args.now _ c.self.invariant))
