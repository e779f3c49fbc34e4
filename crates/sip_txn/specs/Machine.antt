-- What the four tables have in common: a row, and what a machine does by it.
use Rattle.std.specs.Prelude.{ℕ, Option, Some, None}
use Rattle.sip_txn.specs.declared.event.TxEvent.{TxEvent}
use Rattle.sip_txn.specs.declared.event.TxOut.{TxOut}
use Rattle.sip_txn.specs.declared.event.TxSend.{TxSend}
use Rattle.sip_txn.specs.declared.event.TxSend.TheVariants as send
use Rattle.sip_txn.specs.declared.event.TxPass.{TxPass}
use Rattle.sip_txn.specs.declared.event.TxPass.TheVariants as pass
use Rattle.sip_txn.specs.declared.timers.TimerChange.{TimerChange}
use Rattle.sip_txn.specs.declared.timers.MachineInput.{MachineInput}
use Rattle.sip_txn.specs.declared.machine.MachineRow.{MachineRow}
use Rattle.sip_txn.specs.declared.machine.Machine.{Machine}
use Rattle.sip_txn.specs.Timers.{input_of, run_clock}

-- ---- what is sent and passed

abbrev pub silent : TxOut
silent = record { send = send.Nothing; pass = pass.Nothing }

abbrev pub sends : TxSend → TxOut
sends what = record { send = what; pass = pass.Nothing }

abbrev pub passes : TxPass → TxOut
passes what = record { send = send.Nothing; pass = what }

-- ---- tables

-- A table has at most one row for a state and an input; what it does not list changes nothing.
abbrev pub Table : Type 0 → Type 0
Table S = S → MachineInput → Option (MachineRow S)

-- to this state, with this done to the timers, and this sent and passed
abbrev pub goes_to : {S : Type 0} → S → TimerChange → TxOut → Option (MachineRow S)
goes_to next clock out = Some (record { next = next; clock = clock; out = out })

abbrev pub row_machine : {S : Type 0} → Option (MachineRow S) → ℕ → Machine S → Machine S
row_machine None now m = m
row_machine (Some r) now m = record { state = r.next; timers = run_clock m.reliability r.clock now m.timers; reliability = m.reliability }

abbrev pub row_out : {S : Type 0} → Option (MachineRow S) → TxOut
row_out None = silent
row_out (Some r) = r.out

-- the machine after an event, by its table
abbrev pub machine_after : {S : Type 0} → Table S → TxEvent → ℕ → Machine S → Machine S
machine_after table event now m = row_machine (table m.state (input_of event now m.timers)) now m

-- what it sends and passes
abbrev pub out_of : {S : Type 0} → Table S → TxEvent → ℕ → Machine S → TxOut
out_of table event now m = row_out (table m.state (input_of event now m.timers))
