-- Laws of the table of OtherServer: its rows keep which timers run, and what becomes of it over whole runs.
use Rattle.sip_txn.proofs.Common.{◌≡◌, ℕ, Reliability, Unreliable, Reliable, ◌+◌, ◌≤◌, cond, Option, arith, Repeat, Timers, MachineInput, Event, TxEvent, Machine, OtherServerState, no_timers, silent, row_machine, row_out, machine_after, out_of, IsOver, other_server}
use Rattle.sip_txn.specs.declared.other_server.OtherServerState.TheVariants.{Trying, Proceeding, Completed, Terminated}
use Rattle.sip_txn.specs.OtherServer.{RunsTimersOf, ends, HandsUpOneEnd, RunsOutByTicks}
use Rattle.sip_txn.proofs.Lists.{count_by-answers, machine_after_all-same, answers-silent}
use Rattle.sip_txn.proofs.Ticks.{runs_out_alone}

abbrev pub at_rest : Reliability → OtherServerState → Timers → Machine OtherServerState
at_rest t s timers = record { state = s; timers = timers; reliability = t }

-- the machine after the row of an input
abbrev pub followed : Reliability → OtherServerState → MachineInput → ℕ → Timers → Machine OtherServerState
followed t s i now timers = row_machine (other_server s i) now (at_rest t s timers)

-- A row keeps which timers run in the states.
pub keeps : (t : Reliability) (s : OtherServerState) (i : MachineInput) (now : ℕ) (timers : Timers) → RunsTimersOf t s timers → RunsTimersOf t (followed t s i now timers).state (followed t s i now timers).timers
keeps t s i now timers h = grind arith

pub keeps_all : (t : Reliability) (s : OtherServerState) (i : MachineInput) (now : ℕ) (timers : Timers) → RunsTimersOf t s timers
    → RunsTimersOf (followed t s i now timers).reliability (followed t s i now timers).state (followed t s i now timers).timers
keeps_all t s i now timers h = grind (arith, keeps t s i now timers h)

-- ---- a machine that is over

over_stays : (t : Reliability) (event : TxEvent) (at : ℕ) → machine_after other_server event at (at_rest t Terminated no_timers) ≡ at_rest t Terminated no_timers
over_stays t event at = grind arith

over_silent : (t : Reliability) (event : TxEvent) (at : ℕ) → out_of other_server event at (at_rest t Terminated no_timers) ≡ silent
over_silent t event at = grind arith

pub is_over : (t : Reliability) (s : OtherServerState) (timers : Timers) → RunsTimersOf t s timers → s ≡ Terminated → IsOver other_server (at_rest t s timers)
is_over t s timers h e = grind (arith, machine_after_all-same, answers-silent)

-- ---- ticks alone

pub runs_out : (t : Reliability) (s : OtherServerState) (repeat : Option Repeat) (end : Option ℕ) → RunsTimersOf t s (record { repeat = repeat; end = end })
    → RunsOutByTicks t s (at_rest t s (record { repeat = repeat; end = end }))
runs_out t s repeat end h = grind (arith, runs_out_alone)

-- ---- one end

-- how many ends may still come in a state
abbrev pub credit : OtherServerState → ℕ
credit Trying = 1
credit Proceeding = 1
credit Completed = 1
credit _ = 0

tick_uses : (t : Reliability) (s : OtherServerState) (i : MachineInput) (now : ℕ) (timers : Timers) → cond (ends (row_out (other_server s i)).pass) 1 0 + credit (followed t s i now timers).state ≤ credit s
tick_uses t s i now timers = grind arith

event_uses : (t : Reliability) (s : OtherServerState) (event : TxEvent) (now : ℕ) (timers : Timers) → cond (ends (row_out (other_server s (Event event))).pass) 1 0 + credit (followed t s (Event event) now timers).state ≤ credit s
event_uses t s event now timers = grind arith

uses : (event : TxEvent) (at : ℕ) (m : Machine OtherServerState) → cond (ends (out_of other_server event at m).pass) 1 0 + credit (machine_after other_server event at m).state ≤ credit m.state
uses event at m = grind arith

pub hands_up_one : (m : Machine OtherServerState) → credit m.state ≤ 1 → HandsUpOneEnd m
hands_up_one m h = record {
  once = λ fed. let most = count_by-answers other_server (λ a. ends a.out.pass) credit (λ f m. uses f.event f.at m) fed m in omega arith;
}
