-- What is known of the timers in each state gives the laws of ticks and of the end.
use Rattle.sip_txn.proofs.Common.{IsOver, Machine, OtherServerState, other_server, subst, ◌≡◌}
use Rattle.sip_txn.specs.OtherServer.{RunsOutByTicks}
use Rattle.sip_txn.proofs.OtherServerTable.{runs_out, is_over}
use Rattle.sip_txn.proofs.other_server.OtherServer.due.Goals as goal

pub returns-clause-runs_out : goal.returns-clause-runs_out
returns-clause-runs_out c =
    let Law : Machine OtherServerState → Type 0 = λ m. RunsOutByTicks m.reliability m.state m in
    subst Law c.self.view_is (runs_out _ _ _ _ c.self.invariant)

pub returns-clause-over : goal.returns-clause-over
returns-clause-over c =
    let Law : Machine OtherServerState → Type 0 = λ m. m.state ≡ OtherServerState.Terminated → IsOver other_server m in
    subst Law c.self.view_is (is_over _ _ _ c.self.invariant)
