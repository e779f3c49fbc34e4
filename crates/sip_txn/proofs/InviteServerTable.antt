-- Laws of the table of InviteServer: its rows keep which timers run, and what becomes of it over whole runs.
use Rattle.sip_txn.proofs.Common.{◌≡◌, ℕ, Reliability, Unreliable, Reliable, ◌+◌, ◌≤◌, cond, Option, refl, arith, lit≤, Repeat, Timers, DoubledUpToT2, MachineInput, Event, TxEvent, Machine, InviteServerState, no_timers, silent, sends, passes, row_machine, row_out, machine_after, out_of}
use Rattle.sip_txn.proofs.Common.{IsOver, invite_server}
use Rattle.sip_txn.specs.declared.event.TxSend.TheVariants as send
use Rattle.sip_txn.specs.declared.event.TxPass.TheVariants as pass
use Rattle.sip_txn.specs.declared.invite_server.InviteServerState.TheVariants.{Proceeding, Completed, Terminated}
use Rattle.sip_txn.specs.InviteServer.{RunsTimersOf, ends, HandsUpOneEnd, RunsOutByTicks, RetransmitsFailure, retransmissions}
use Rattle.sip_txn.specs.declared.event.TxEvent.TheVariants as event
use Rattle.sip_txn.specs.Runs.{RetransmitsAt, if_unreliable}
use Rattle.sip_txn.proofs.Lists.{count_by-answers, machine_after_all-same, answers-silent}
use Rattle.sip_txn.proofs.Ticks.{Retransmits, runs_out_waiting, runs_out_alone, runs_out_once, runs_out_started}

abbrev pub at_rest : Reliability → InviteServerState → Timers → Machine InviteServerState
at_rest t s timers = record { state = s; timers = timers; reliability = t }

-- the machine after the row of an input
abbrev pub followed : Reliability → InviteServerState → MachineInput → ℕ → Timers → Machine InviteServerState
followed t s i now timers = row_machine (invite_server s i) now (at_rest t s timers)

-- A row keeps which timers run in the states.
pub keeps : (t : Reliability) (s : InviteServerState) (i : MachineInput) (now : ℕ) (timers : Timers) → RunsTimersOf t s timers → RunsTimersOf t (followed t s i now timers).state (followed t s i now timers).timers
keeps t s i now timers h = grind arith

pub keeps_all : (t : Reliability) (s : InviteServerState) (i : MachineInput) (now : ℕ) (timers : Timers) → RunsTimersOf t s timers
    → RunsTimersOf (followed t s i now timers).reliability (followed t s i now timers).state (followed t s i now timers).timers
keeps_all t s i now timers h = grind (arith, keeps t s i now timers h)

-- ---- a machine that is over

over_stays : (t : Reliability) (event : TxEvent) (at : ℕ) → machine_after invite_server event at (at_rest t Terminated no_timers) ≡ at_rest t Terminated no_timers
over_stays t event at = grind arith

over_silent : (t : Reliability) (event : TxEvent) (at : ℕ) → out_of invite_server event at (at_rest t Terminated no_timers) ≡ silent
over_silent t event at = grind arith

pub is_over : (t : Reliability) (s : InviteServerState) (timers : Timers) → RunsTimersOf t s timers → s ≡ Terminated → IsOver invite_server (at_rest t s timers)
is_over t s timers h e = grind (arith, machine_after_all-same, answers-silent)

-- ---- ticks alone

completed : Retransmits invite_server Completed Terminated DoubledUpToT2 (sends send.Response) (passes pass.Timeout)
completed = record { again_row = refl; end_row = refl }

pub runs_out : (t : Reliability) (s : InviteServerState) (repeat : Option Repeat) (end : Option ℕ) → RunsTimersOf t s (record { repeat = repeat; end = end })
    → RunsOutByTicks t s (at_rest t s (record { repeat = repeat; end = end }))
runs_out t s repeat end h = grind (arith, runs_out_waiting, runs_out_alone)

failed : (t : Reliability) (now : ℕ) → RetransmitsAt invite_server (sends send.Response) (passes pass.Timeout) Terminated now (if_unreliable t retransmissions) (machine_after invite_server event.AnswerFailure now (at_rest t Proceeding no_timers))
failed Unreliable now = runs_out_started Unreliable invite_server Completed Terminated DoubledUpToT2 (sends send.Response) (passes pass.Timeout) completed now 500 500 32000 10 (lit≤ tt)
failed Reliable now = runs_out_once invite_server Completed Terminated (sends send.Response) (passes pass.Timeout) refl now retransmissions

pub unacknowledged : (t : Reliability) → RetransmitsFailure t (at_rest t Proceeding no_timers)
unacknowledged t = record {
  sent = λ now. refl;
  again = λ now. failed t now;
}

-- ---- one end

-- how many ends may still come in a state
abbrev pub credit : InviteServerState → ℕ
credit Proceeding = 1
credit Completed = 1
credit _ = 0

tick_uses : (t : Reliability) (s : InviteServerState) (i : MachineInput) (now : ℕ) (timers : Timers) → cond (ends (row_out (invite_server s i)).pass) 1 0 + credit (followed t s i now timers).state ≤ credit s
tick_uses t s i now timers = grind arith

event_uses : (t : Reliability) (s : InviteServerState) (event : TxEvent) (now : ℕ) (timers : Timers) → cond (ends (row_out (invite_server s (Event event))).pass) 1 0 + credit (followed t s (Event event) now timers).state ≤ credit s
event_uses t s event now timers = grind arith

uses : (event : TxEvent) (at : ℕ) (m : Machine InviteServerState) → cond (ends (out_of invite_server event at m).pass) 1 0 + credit (machine_after invite_server event at m).state ≤ credit m.state
uses event at m = grind arith

pub hands_up_one : (m : Machine InviteServerState) → credit m.state ≤ 1 → HandsUpOneEnd m
hands_up_one m h = record {
  once = λ fed. let most = count_by-answers invite_server (λ a. ends a.out.pass) credit (λ f m. uses f.event f.at m) fed m in omega arith;
}
