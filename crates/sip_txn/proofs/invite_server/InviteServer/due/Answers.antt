-- What is known of the timers in each state gives the laws of ticks and of the end.
use Rattle.sip_txn.proofs.Common.{InviteServerState, IsOver, Machine, invite_server, rules, subst, ◌≡◌}
use Rattle.sip_txn.specs.InviteServer.{RunsOutByTicks}
use Rattle.sip_txn.proofs.InviteServerTable.{runs_out, is_over}
use Rattle.sip_txn.proofs.invite_server.InviteServer.due.Goals as goal

pub returns-clause-runs_out : goal.returns-clause-runs_out
returns-clause-runs_out c =
    let Law : Machine InviteServerState → Type 0 = λ m. RunsOutByTicks m.reliability m.state m in
    subst Law c.self.view_is (runs_out _ _ _ _ c.self.invariant)

pub returns-clause-over : goal.returns-clause-over
returns-clause-over c =
    let Law : Machine InviteServerState → Type 0 = λ m. m.state ≡ InviteServerState.Terminated → IsOver invite_server m in
    subst Law c.self.view_is (is_over _ _ _ c.self.invariant)

pub returns-clause-value : goal.returns-clause-value
returns-clause-value c = search rules
