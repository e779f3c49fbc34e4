-- What is known of the timers in each state gives the laws of ticks and of the end.
use Rattle.sip_txn.proofs.Common.{InviteClientState, IsOver, Machine, RunsOutByTicks, invite_client, rules, subst, ◌≡◌}
use Rattle.sip_txn.proofs.InviteClientTable.{runs_out, is_over}
use Rattle.sip_txn.proofs.invite_client.InviteClient.due.Goals as goal

pub returns-clause-runs_out : goal.returns-clause-runs_out
returns-clause-runs_out c =
    let Law : Machine InviteClientState → Type 0 = λ m. RunsOutByTicks m.reliability m.state m in
    subst Law c.self.view_is (runs_out _ _ _ _ c.self.invariant)

pub returns-clause-over : goal.returns-clause-over
returns-clause-over c =
    let Law : Machine InviteClientState → Type 0 = λ m. m.state ≡ InviteClientState.Terminated → IsOver invite_client m in
    subst Law c.self.view_is (is_over _ _ _ c.self.invariant)

pub returns-clause-value : goal.returns-clause-value
returns-clause-value c = search rules
