-- Laws of the table of OtherClient: its rows keep which timers run, and what becomes of it over whole runs.
use Rattle.sip_txn.proofs.Common.{◌≡◌, ℕ, None, ap, sym, subst, Reliability, Unreliable, Reliable, ◌+◌, ◌≤◌, ◌<◌, cond, List, [], ◌∷◌, Option, Some, refl, arith, lit≤, T1_TIMES_64, Repeat, Timers, DoubledUpToT2, SetToT2, MachineInput, Event, TxEvent, Machine, OtherClientState, later, no_timers, repeats_and_ends, waits, input_of}
use Rattle.sip_txn.proofs.Common.{silent, sends, passes, row_machine, row_out, machine_after, out_of, answers, Answer, IsOver, other_client}
use Rattle.sip_txn.specs.declared.timers.TheConstants.{T1}
use Rattle.sip_txn.specs.declared.event.TxEvent.TheVariants as event
use Rattle.sip_txn.specs.declared.event.TxSend.TheVariants as send
use Rattle.sip_txn.specs.declared.event.TxPass.TheVariants as pass
use Rattle.sip_txn.specs.declared.other_client.OtherClientState.TheVariants.{Trying, Proceeding, Terminated}
use Rattle.sip_txn.specs.Runs.{Fed, NeverSends, RetransmitsAt, if_unreliable}
use Rattle.sip_txn.specs.OtherClient.{RunsTimersOf, ends, HandsUpOneEnd, RunsOutByTicks, RetransmitsUnanswered, after_provisional, retransmissions, retransmissions_proceeding}
use Rattle.std.proofs.Common.{◌≢◌, All}
use Rattle.std.proofs.lemmas.List.Elements.{All-nil, All-cons}
use Rattle.sip_txn.proofs.Lists.{count_by-answers, machine_after_all-same, answers-silent}
use Rattle.sip_txn.proofs.Ticks.{reliable_alone, Retransmits, running, runs_out_waiting, runs_out_alone, runs_out_once, runs_out_started}
use Rattle.sip_txn.proofs.Moments.{started}

abbrev at_reliability : OtherClientState → Timers → Reliability → Machine OtherClientState
at_reliability s timers t = record { state = s; timers = timers; reliability = t }

abbrev pub at_rest : Reliability → OtherClientState → Timers → Machine OtherClientState
at_rest t s timers = record { state = s; timers = timers; reliability = t }

-- the machine after the row of an input
abbrev pub followed : Reliability → OtherClientState → MachineInput → ℕ → Timers → Machine OtherClientState
followed t s i now timers = row_machine (other_client s i) now (at_rest t s timers)

-- A row keeps which timers run in the states.
pub keeps : (t : Reliability) (s : OtherClientState) (i : MachineInput) (now : ℕ) (timers : Timers) → RunsTimersOf t s timers → RunsTimersOf t (followed t s i now timers).state (followed t s i now timers).timers
keeps t s i now timers h = grind arith

pub keeps_all : (t : Reliability) (s : OtherClientState) (i : MachineInput) (now : ℕ) (timers : Timers) → RunsTimersOf t s timers
    → RunsTimersOf (followed t s i now timers).reliability (followed t s i now timers).state (followed t s i now timers).timers
keeps_all t s i now timers h = grind (arith, keeps t s i now timers h)

-- ---- a machine that is over

over_stays : (t : Reliability) (event : TxEvent) (at : ℕ) → machine_after other_client event at (at_rest t Terminated no_timers) ≡ at_rest t Terminated no_timers
over_stays t event at = grind arith

over_silent : (t : Reliability) (event : TxEvent) (at : ℕ) → out_of other_client event at (at_rest t Terminated no_timers) ≡ silent
over_silent t event at = grind arith

pub is_over : (t : Reliability) (s : OtherClientState) (timers : Timers) → RunsTimersOf t s timers → s ≡ Terminated → IsOver other_client (at_rest t s timers)
is_over t s timers h e = grind (arith, machine_after_all-same, answers-silent)

-- ---- ticks alone

trying : Retransmits other_client Trying Terminated DoubledUpToT2 (sends send.Request) (passes pass.Timeout)
trying = record { again_row = refl; end_row = refl }

proceeding : Retransmits other_client Proceeding Terminated SetToT2 (sends send.Request) (passes pass.Timeout)
proceeding = record { again_row = refl; end_row = refl }

pub runs_out : (t : Reliability) (s : OtherClientState) (repeat : Option Repeat) (end : Option ℕ) → RunsTimersOf t s (record { repeat = repeat; end = end })
    → RunsOutByTicks t s (at_rest t s (record { repeat = repeat; end = end }))
runs_out t s repeat end h = grind (arith, runs_out_waiting, proceeding, runs_out_alone)

-- after the first retransmission, and then a provisional
provisional_at : (now at : ℕ) → later now T1 < later now T1_TIMES_64 → after_provisional now at (at_rest Unreliable Trying (repeats_and_ends now)) ≡ running Unreliable Proceeding (Some (started now 1500 1000)) (later now T1_TIMES_64)
provisional_at now at h = grind arith

provisional_reliably : (now at : ℕ) → later now T1 < later now T1_TIMES_64 → after_provisional now at (at_rest Reliable Trying (waits Reliable now)) ≡ running Reliable Proceeding None (later now T1_TIMES_64)
provisional_reliably now at h = grind arith

tries : (t : Reliability) (now : ℕ) → RetransmitsAt other_client (sends send.Request) (passes pass.Timeout) Terminated now (if_unreliable t retransmissions) (at_rest t Trying (waits t now))
tries Unreliable now = runs_out_started Unreliable other_client Trying Terminated DoubledUpToT2 (sends send.Request) (passes pass.Timeout) trying now 500 500 32000 10 (lit≤ tt)
tries Reliable now = runs_out_once other_client Trying Terminated (sends send.Request) (passes pass.Timeout) refl now retransmissions

abbrev ProceedsAt : Reliability → ℕ → Machine OtherClientState → Type 0
ProceedsAt t now m = RetransmitsAt other_client (sends send.Request) (passes pass.Timeout) Terminated now (if_unreliable t retransmissions_proceeding) m

proceeds : (t : Reliability) (now at : ℕ) → later now T1 < later now T1_TIMES_64 → ProceedsAt t now (after_provisional now at (at_rest t Trying (waits t now)))
proceeds Unreliable now at h = subst (ProceedsAt Unreliable now) (sym (provisional_at now at h)) (runs_out_started Unreliable other_client Proceeding Terminated SetToT2 (sends send.Request) (passes pass.Timeout) proceeding now 1500 1000 32000 8 (lit≤ tt))
proceeds Reliable now at h = subst (ProceedsAt Reliable now) (sym (provisional_reliably now at h)) (runs_out_once other_client Proceeding Terminated (sends send.Request) (passes pass.Timeout) refl now retransmissions_proceeding)

-- ---- the request goes once

-- what holds all the time over a reliable transport
abbrev Steady : Machine OtherClientState → Type 0
Steady x = (x.reliability ≡ Reliable) × RunsTimersOf Reliable x.state x.timers

steady_after : (event : TxEvent) (at : ℕ) (s : OtherClientState) (timers : Timers) → RunsTimersOf Reliable s timers → Steady (machine_after other_client event at (at_rest Reliable s timers))
steady_after event at s timers h = grind (arith, keeps Reliable s (input_of event at timers) at timers h)

-- no input of a state sends the request
once_step : (event : TxEvent) (at : ℕ) (s : OtherClientState) (timers : Timers) → RunsTimersOf Reliable s timers → (out_of other_client event at (at_rest Reliable s timers)).send ≢ send.Request
once_step event at s timers h = grind arith

once_all : (fed : List Fed) (x : Machine OtherClientState) → Steady x → All (λ a. a.out.send ≢ send.Request) (answers other_client fed x)
once_all [] x h = All-nil (λ (a : Answer). a.out.send ≢ send.Request)
once_all (f ∷ fs) x h =
    let same : at_rest Reliable x.state x.timers ≡ x = ap (at_reliability x.state x.timers) (sym h.0) in
    let Sent : Machine OtherClientState → Type 0 = λ y. (out_of other_client f.event f.at y).send ≢ send.Request in
    let Goes : Machine OtherClientState → Type 0 = λ y. Steady (machine_after other_client f.event f.at y) in
    let first = subst Sent same (once_step f.event f.at x.state x.timers h.1) in
    let next = subst Goes same (steady_after f.event f.at x.state x.timers h.1) in
    All-cons (λ (a : Answer). a.out.send ≢ send.Request) _ _ first (once_all fs (machine_after other_client f.event f.at x) next)

pub sends_once : (t : Reliability) (s : OtherClientState) (timers : Timers) → RunsTimersOf t s timers → t ≡ Reliable → NeverSends other_client send.Request (at_rest t s timers)
sends_once Unreliable s timers h e = absurd (reliable_alone e)
sends_once Reliable s timers h e = record { never = λ fed. once_all fed (at_rest Reliable s timers) (refl, h) }

started_runs : (t : Reliability) (now : ℕ) → RunsTimersOf t Trying (waits t now)
started_runs t now = grind arith

pub unanswered : (t : Reliability) (now : ℕ) → RetransmitsUnanswered t now (at_rest t Trying (waits t now))
unanswered t now = record {
  trying = tries t now;
  proceeding = λ at h. proceeds t now at h;
  once = sends_once t Trying (waits t now) (started_runs t now);
}

-- ---- one end

-- how many ends may still come in a state
abbrev pub credit : OtherClientState → ℕ
credit Trying = 1
credit Proceeding = 1
credit _ = 0

tick_uses : (t : Reliability) (s : OtherClientState) (i : MachineInput) (now : ℕ) (timers : Timers) → cond (ends event.Tick (row_out (other_client s i)).pass) 1 0 + credit (followed t s i now timers).state ≤ credit s
tick_uses t s i now timers = grind arith

event_uses : (t : Reliability) (s : OtherClientState) (event : TxEvent) (now : ℕ) (timers : Timers) → cond (ends event (row_out (other_client s (Event event))).pass) 1 0 + credit (followed t s (Event event) now timers).state ≤ credit s
event_uses t s event now timers = grind arith

uses : (event : TxEvent) (at : ℕ) (m : Machine OtherClientState) → cond (ends event (out_of other_client event at m).pass) 1 0 + credit (machine_after other_client event at m).state ≤ credit m.state
uses event at m = grind arith

pub hands_up_one : (m : Machine OtherClientState) → credit m.state ≤ 1 → HandsUpOneEnd m
hands_up_one m h = record {
  once = λ fed. let most = count_by-answers other_client (λ a. ends a.fed.event a.out.pass) credit (λ f m. uses f.event f.at m) fed m in omega arith;
}
