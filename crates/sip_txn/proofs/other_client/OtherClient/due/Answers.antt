-- What is known of the timers in each state gives the laws of ticks and of the end.
use Rattle.sip_txn.proofs.Common.{IsOver, Machine, OtherClientState, other_client, rules, subst, ◌≡◌}
use Rattle.sip_txn.specs.OtherClient.{RunsOutByTicks}
use Rattle.sip_txn.proofs.OtherClientTable.{runs_out, is_over}
use Rattle.sip_txn.proofs.other_client.OtherClient.due.Goals as goal

pub returns-clause-runs_out : goal.returns-clause-runs_out
returns-clause-runs_out c =
    let Law : Machine OtherClientState → Type 0 = λ m. RunsOutByTicks m.reliability m.state m in
    subst Law c.self.view_is (runs_out _ _ _ _ c.self.invariant)

pub returns-clause-over : goal.returns-clause-over
returns-clause-over c =
    let Law : Machine OtherClientState → Type 0 = λ m. m.state ≡ OtherClientState.Terminated → IsOver other_client m in
    subst Law c.self.view_is (is_over _ _ _ c.self.invariant)

pub returns-clause-value : goal.returns-clause-value
returns-clause-value c = search rules
