-- The names that most proofs of this crate cite, passed on from one place. Declares nothing.
pub use Rattle.std.proofs.Common.{Bool, List, None, Option, Some, [], ap, arith, cond, lit≤, map, min, refl, rules, subst, suc, sym, true, zero, ℕ, ◌+◌, ◌<◌, ◌∙◌, ◌∷◌, ◌≡◌, ◌≤◌}
pub use Rattle.std.proofs.lemmas.Bool.{cond-false, le-leb, lt-leb}
pub use Rattle.std.proofs.lemmas.Grind.{common_steps}
pub use Rattle.sip_txn.specs.InviteClient.{RunsOutByTicks, RunsTimersOf, invite_client}
pub use Rattle.sip_txn.specs.InviteServer.{invite_server}
pub use Rattle.sip_txn.specs.Machine.{Table, machine_after, out_of, passes, row_machine, row_out, sends, silent}
pub use Rattle.sip_txn.specs.OtherClient.{other_client}
pub use Rattle.sip_txn.specs.OtherServer.{other_server}
pub use Rattle.sip_txn.specs.Runs.{Answer, IsOver, answers, before, machine_after_all, moments}
pub use Rattle.sip_txn.specs.Timers.{EndsOnly, RepeatsAndEnds, input_of, last_moment, later, least, no_timers, repeats_and_ends, set_again, Waits, lingering, waits}
pub use Rattle.sip_txn.specs.declared.event.TxEvent.{TxEvent}
pub use Rattle.sip_txn.specs.declared.event.TxEvent.TheVariants.{Tick}
pub use Rattle.sip_txn.specs.declared.invite_client.InviteClientState.{InviteClientState}
pub use Rattle.sip_txn.specs.declared.invite_client.InviteClientState.TheVariants.{Terminated}
pub use Rattle.sip_txn.specs.declared.invite_server.InviteServerState.{InviteServerState}
pub use Rattle.sip_txn.specs.declared.machine.Machine.{Machine}
pub use Rattle.sip_txn.specs.declared.other_client.OtherClientState.{OtherClientState}
pub use Rattle.sip_txn.specs.declared.other_server.OtherServerState.{OtherServerState}
pub use Rattle.sip_txn.specs.declared.timers.TimerChange.TheVariants.{Again}
pub use Rattle.sip_txn.specs.declared.timers.Growth.{Growth}
pub use Rattle.sip_txn.specs.declared.timers.Growth.TheVariants.{Doubled, DoubledUpToT2, SetToT2}
pub use Rattle.sip_txn.specs.declared.timers.MachineInput.{MachineInput}
pub use Rattle.sip_txn.specs.declared.timers.MachineInput.TheVariants.{EndDue, Event, RepeatDue}
pub use Rattle.sip_txn.specs.declared.timers.Repeat.{Repeat}
pub use Rattle.sip_txn.specs.declared.timers.TheConstants.{T1_TIMES_64, T2, T4}
pub use Rattle.sip_txn.specs.declared.timers.Timers.{Timers}
pub use Rattle.sip_txn.specs.declared.timers.Reliability.{Reliability}
pub use Rattle.sip_txn.specs.declared.timers.Reliability.TheVariants.{Reliable, Unreliable}
