-- Laws of the table of InviteClient: its rows keep which timers run, and what becomes of it over whole runs.
use Rattle.sip_txn.proofs.Common.{◌≡◌, ℕ, None, ap, sym, subst, Reliability, Unreliable, Reliable, ◌+◌, ◌≤◌, cond, List, [], ◌∷◌, Option, refl, arith, lit≤, Repeat, Timers, Doubled, MachineInput, Event, TxEvent, Machine, InviteClientState, Terminated, no_timers, waits, input_of, silent, sends, passes, row_machine, row_out}
use Rattle.sip_txn.proofs.Common.{machine_after, out_of, answers, Answer, IsOver, invite_client, RunsTimersOf, RunsOutByTicks}
use Rattle.sip_txn.specs.declared.event.TxEvent.TheVariants as event
use Rattle.sip_txn.specs.declared.event.TxSend.TheVariants as send
use Rattle.sip_txn.specs.declared.event.TxPass.TheVariants as pass
use Rattle.sip_txn.specs.declared.invite_client.InviteClientState.TheVariants.{Calling, Proceeding}
use Rattle.sip_txn.specs.InviteClient.{ends, HandsUpOneEnd, RetransmitsUnanswered, retransmissions}
use Rattle.std.proofs.Common.{◌≢◌, All}
use Rattle.std.proofs.lemmas.List.Elements.{All-nil, All-cons}
use Rattle.sip_txn.specs.Runs.{Fed, NeverSends, RetransmitsAt, if_unreliable}
use Rattle.sip_txn.proofs.Lists.{count_by-answers, machine_after_all-same, answers-silent}
use Rattle.sip_txn.proofs.Ticks.{reliable_alone, Retransmits, runs_out_waiting, runs_out_alone, runs_out_once, runs_out_started}

abbrev at_reliability : InviteClientState → Timers → Reliability → Machine InviteClientState
at_reliability s timers t = record { state = s; timers = timers; reliability = t }

abbrev pub at_rest : Reliability → InviteClientState → Timers → Machine InviteClientState
at_rest t s timers = record { state = s; timers = timers; reliability = t }

-- the machine after the row of an input
abbrev pub followed : Reliability → InviteClientState → MachineInput → ℕ → Timers → Machine InviteClientState
followed t s i now timers = row_machine (invite_client s i) now (at_rest t s timers)

-- A row keeps which timers run in the states.
pub keeps : (t : Reliability) (s : InviteClientState) (i : MachineInput) (now : ℕ) (timers : Timers) → RunsTimersOf t s timers → RunsTimersOf t (followed t s i now timers).state (followed t s i now timers).timers
keeps t s i now timers h = grind arith

pub keeps_all : (t : Reliability) (s : InviteClientState) (i : MachineInput) (now : ℕ) (timers : Timers) → RunsTimersOf t s timers
    → RunsTimersOf (followed t s i now timers).reliability (followed t s i now timers).state (followed t s i now timers).timers
keeps_all t s i now timers h = grind (arith, keeps t s i now timers h)

-- ---- a machine that is over

over_stays : (t : Reliability) (event : TxEvent) (at : ℕ) → machine_after invite_client event at (at_rest t Terminated no_timers) ≡ at_rest t Terminated no_timers
over_stays t event at = grind arith

over_silent : (t : Reliability) (event : TxEvent) (at : ℕ) → out_of invite_client event at (at_rest t Terminated no_timers) ≡ silent
over_silent t event at = grind arith

pub is_over : (t : Reliability) (s : InviteClientState) (timers : Timers) → RunsTimersOf t s timers → s ≡ Terminated → IsOver invite_client (at_rest t s timers)
is_over t s timers h e = grind (arith, machine_after_all-same, answers-silent)

-- ---- ticks alone

calling : Retransmits invite_client Calling Terminated Doubled (sends send.Request) (passes pass.Timeout)
calling = record { again_row = refl; end_row = refl }

pub runs_out : (t : Reliability) (s : InviteClientState) (repeat : Option Repeat) (end : Option ℕ) → RunsTimersOf t s (record { repeat = repeat; end = end })
    → RunsOutByTicks t s (at_rest t s (record { repeat = repeat; end = end }))
runs_out t s repeat end h = grind (arith, runs_out_waiting, runs_out_alone)

-- ---- the request goes once

-- what holds all the time over a reliable transport
abbrev Steady : Machine InviteClientState → Type 0
Steady x = (x.reliability ≡ Reliable) × RunsTimersOf Reliable x.state x.timers

steady_after : (event : TxEvent) (at : ℕ) (s : InviteClientState) (timers : Timers) → RunsTimersOf Reliable s timers → Steady (machine_after invite_client event at (at_rest Reliable s timers))
steady_after event at s timers h = grind (arith, keeps Reliable s (input_of event at timers) at timers h)

-- no input of a state sends the request
once_step : (event : TxEvent) (at : ℕ) (s : InviteClientState) (timers : Timers) → RunsTimersOf Reliable s timers → (out_of invite_client event at (at_rest Reliable s timers)).send ≢ send.Request
once_step event at s timers h = grind arith

once_all : (fed : List Fed) (x : Machine InviteClientState) → Steady x → All (λ a. a.out.send ≢ send.Request) (answers invite_client fed x)
once_all [] x h = All-nil (λ (a : Answer). a.out.send ≢ send.Request)
once_all (f ∷ fs) x h =
    let same : at_rest Reliable x.state x.timers ≡ x = ap (at_reliability x.state x.timers) (sym h.0) in
    let Sent : Machine InviteClientState → Type 0 = λ y. (out_of invite_client f.event f.at y).send ≢ send.Request in
    let Goes : Machine InviteClientState → Type 0 = λ y. Steady (machine_after invite_client f.event f.at y) in
    let first = subst Sent same (once_step f.event f.at x.state x.timers h.1) in
    let next = subst Goes same (steady_after f.event f.at x.state x.timers h.1) in
    All-cons (λ (a : Answer). a.out.send ≢ send.Request) _ _ first (once_all fs (machine_after invite_client f.event f.at x) next)

pub sends_once : (t : Reliability) (s : InviteClientState) (timers : Timers) → RunsTimersOf t s timers → t ≡ Reliable → NeverSends invite_client send.Request (at_rest t s timers)
sends_once Unreliable s timers h e = absurd (reliable_alone e)
sends_once Reliable s timers h e = record { never = λ fed. once_all fed (at_rest Reliable s timers) (refl, h) }

calls : (t : Reliability) (now : ℕ) → RetransmitsAt invite_client (sends send.Request) (passes pass.Timeout) Terminated now (if_unreliable t retransmissions) (at_rest t Calling (waits t now))
calls Unreliable now = runs_out_started Unreliable invite_client Calling Terminated Doubled (sends send.Request) (passes pass.Timeout) calling now 500 500 32000 6 (lit≤ tt)
calls Reliable now = runs_out_once invite_client Calling Terminated (sends send.Request) (passes pass.Timeout) refl now retransmissions

started_runs : (t : Reliability) (now : ℕ) → RunsTimersOf t Calling (waits t now)
started_runs t now = grind arith

pub unanswered : (t : Reliability) (now : ℕ) → RetransmitsUnanswered t now (at_rest t Calling (waits t now))
unanswered t now = record { calling = calls t now; once = sends_once t Calling (waits t now) (started_runs t now) }

-- ---- one end

-- how many ends may still come in a state
abbrev pub credit : InviteClientState → ℕ
credit Calling = 1
credit Proceeding = 1
credit _ = 0

tick_uses : (t : Reliability) (s : InviteClientState) (i : MachineInput) (now : ℕ) (timers : Timers) → cond (ends event.Tick (row_out (invite_client s i)).pass) 1 0 + credit (followed t s i now timers).state ≤ credit s
tick_uses t s i now timers = grind arith

event_uses : (t : Reliability) (s : InviteClientState) (event : TxEvent) (now : ℕ) (timers : Timers) → cond (ends event (row_out (invite_client s (Event event))).pass) 1 0 + credit (followed t s (Event event) now timers).state ≤ credit s
event_uses t s event now timers = grind arith

uses : (event : TxEvent) (at : ℕ) (m : Machine InviteClientState) → cond (ends event (out_of invite_client event at m).pass) 1 0 + credit (machine_after invite_client event at m).state ≤ credit m.state
uses event at m = grind arith

pub hands_up_one : (m : Machine InviteClientState) → credit m.state ≤ 1 → HandsUpOneEnd m
hands_up_one m h = record {
  once = λ fed. let most = count_by-answers invite_client (λ a. ends a.fed.event a.out.pass) credit (λ f m. uses f.event f.at m) fed m in omega arith;
}
