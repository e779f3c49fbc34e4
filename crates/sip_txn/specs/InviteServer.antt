-- The server transaction of an INVITE (RFC 3261 section 17.2.1, with RFC 6026 section 7.1).
use Rattle.std.specs.Prelude.{◌≡◌, ℕ, Bool, true, false, List, [], ◌∷◌, None}
use Rattle.sip_txn.specs.declared.timers.TheConstants.{T1_TIMES_64, T2, T4}
use Rattle.sip_txn.specs.declared.timers.Timers.{Timers}
use Rattle.sip_txn.specs.declared.timers.Reliability.{Reliability}
use Rattle.sip_txn.specs.declared.timers.Growth.TheVariants.{DoubledUpToT2}
use Rattle.sip_txn.specs.declared.timers.TimerChange.TheVariants.{Keep, StopAll, EndIn, Linger, RepeatAndEnd, Again}
use Rattle.sip_txn.specs.declared.timers.MachineInput.TheVariants.{Event, EndDue, RepeatDue}
use Rattle.sip_txn.specs.declared.event.TxEvent.TheVariants as event
use Rattle.sip_txn.specs.declared.event.TxSend.TheVariants as send
use Rattle.sip_txn.specs.declared.event.TxPass.{TxPass}
use Rattle.sip_txn.specs.declared.event.TxPass.TheVariants as pass
use Rattle.sip_txn.specs.declared.invite_server.InviteServerState.{InviteServerState}
use Rattle.sip_txn.specs.declared.invite_server.InviteServerState.TheVariants.{Proceeding, Completed, Confirmed, Accepted, Terminated}
use Rattle.sip_txn.specs.declared.machine.Machine.{Machine}
use Rattle.sip_txn.specs.Timers.{no_timers, EndsOnly, Waits}
use Rattle.sip_txn.specs.Machine.{Table, goes_to, silent, sends, passes, machine_after, out_of}
use Rattle.sip_txn.specs.Runs.{EndsOnce, RunsOut, WaitsOut, RetransmitsAt, if_unreliable}

-- Timer G repeats in Completed, first after T1 and then at intervals doubled up to T2, and timer H ends
-- it after 64 times T1; timer I ends Confirmed after T4, timer L ends Accepted after 64 times T1.
abbrev pub invite_server : Table InviteServerState
-- the INVITE again: the latest provisional again; a provisional of the user
invite_server Proceeding (Event event.Request) = goes_to Proceeding Keep (sends send.Response)
invite_server Proceeding (Event event.AnswerProvisional) = goes_to Proceeding Keep (sends send.Response)
-- a 2xx of the user; timer L starts (RFC 6026 section 7.1)
invite_server Proceeding (Event event.AnswerSuccess) = goes_to Accepted (EndIn T1_TIMES_64) (sends send.Response)
-- a failure of the user; timers G and H start
invite_server Proceeding (Event event.AnswerFailure) = goes_to Completed RepeatAndEnd (sends send.Response)
-- the INVITE again, or timer G: the failure again
invite_server Completed (Event event.Request) = goes_to Completed Keep (sends send.Response)
invite_server Completed RepeatDue = goes_to Completed (Again DoubledUpToT2) (sends send.Response)
-- timers G and H stop, timer I starts
invite_server Completed (Event event.Ack) = goes_to Confirmed (Linger T4) silent
-- timer H: the ACK never came
invite_server Completed EndDue = goes_to Terminated StopAll (passes pass.Timeout)
-- timer I
invite_server Confirmed EndDue = goes_to Terminated StopAll silent
-- RFC 6026 section 7.1: a further 2xx of the user is sent, and an ACK is passed to it
invite_server Accepted (Event event.AnswerSuccess) = goes_to Accepted Keep (sends send.Response)
invite_server Accepted (Event event.Ack) = goes_to Accepted Keep (passes pass.Ack)
-- timer L
invite_server Accepted EndDue = goes_to Terminated StopAll silent
invite_server _ _ = None

-- which timers run in each state: none, G and H, I, L, none
abbrev pub RunsTimersOf : Reliability → InviteServerState → Timers → Type 0
RunsTimersOf reliability Proceeding timers = timers ≡ no_timers
RunsTimersOf reliability Completed timers = Waits reliability T2 timers
RunsTimersOf reliability Confirmed timers = EndsOnly timers
RunsTimersOf reliability Accepted timers = EndsOnly timers
RunsTimersOf reliability Terminated timers = timers ≡ no_timers

-- ---- laws

-- whether it is the end that is handed up: a timeout
abbrev pub ends : TxPass → Bool
ends pass.Timeout = true
ends _ = false

-- Whatever it is fed, it hands up at most one timeout.
abbrev pub HandsUpOneEnd : Machine InviteServerState → Type 0
HandsUpOneEnd m = EndsOnce invite_server (λ a. ends a.out.pass) m

-- By ticks alone Completed retransmits the failure and times out (timers G and H); Confirmed and Accepted end
-- silently (timers I and L).
abbrev pub RunsOutByTicks : Reliability → InviteServerState → Machine InviteServerState → Type 0
RunsOutByTicks reliability Proceeding m = Unit {0}
RunsOutByTicks reliability Completed m = WaitsOut reliability invite_server DoubledUpToT2 (sends send.Response) (passes pass.Timeout) Terminated m
RunsOutByTicks reliability Confirmed m = RunsOut invite_server silent Terminated m
RunsOutByTicks reliability Accepted m = RunsOut invite_server silent Terminated m
RunsOutByTicks reliability Terminated m = Unit {0}

-- how many milliseconds after the failure timer G fires, while timer H runs
abbrev pub retransmissions : List ℕ
retransmissions = 500 ∷ 1500 ∷ 3500 ∷ 7500 ∷ 11500 ∷ 15500 ∷ 19500 ∷ 23500 ∷ 27500 ∷ 31500 ∷ []

-- A failure is sent as it is answered; unacknowledged, it is sent again each time, and then the transaction times out.
-- Over a reliable transport it times out, and the failure goes again to an INVITE that comes again alone.
pub record RetransmitsFailure (reliability : Reliability) (m : Machine InviteServerState) : Type 0 where
  pub sent : (now : ℕ) → out_of invite_server event.AnswerFailure now m ≡ sends send.Response
  pub again : (now : ℕ) →
      RetransmitsAt invite_server (sends send.Response) (passes pass.Timeout) Terminated now (if_unreliable reliability retransmissions) (machine_after invite_server event.AnswerFailure now m)
