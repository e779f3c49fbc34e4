-- The client transaction of an INVITE (RFC 3261 section 17.1.1.2, with RFC 6026 section 7.2).
use Rattle.std.specs.Prelude.{◌≡◌, ℕ, Bool, true, false, List, [], ◌∷◌, None}
use Rattle.sip_txn.specs.declared.timers.TheConstants.{T1_TIMES_64, TIMER_D}
use Rattle.sip_txn.specs.declared.timers.Timers.{Timers}
use Rattle.sip_txn.specs.declared.timers.Reliability.{Reliability}
use Rattle.sip_txn.specs.declared.timers.Reliability.TheVariants.{Reliable}
use Rattle.sip_txn.specs.declared.timers.Growth.TheVariants.{Doubled}
use Rattle.sip_txn.specs.declared.timers.TimerChange.TheVariants.{Keep, StopAll, EndIn, Linger, Again}
use Rattle.sip_txn.specs.declared.timers.MachineInput.TheVariants.{Event, EndDue, RepeatDue}
use Rattle.sip_txn.specs.declared.event.TxEvent.{TxEvent}
use Rattle.sip_txn.specs.declared.event.TxEvent.TheVariants as event
use Rattle.sip_txn.specs.declared.event.TxSend.TheVariants as send
use Rattle.sip_txn.specs.declared.event.TxPass.{TxPass}
use Rattle.sip_txn.specs.declared.event.TxPass.TheVariants as pass
use Rattle.sip_txn.specs.declared.invite_client.InviteClientState.{InviteClientState}
use Rattle.sip_txn.specs.declared.invite_client.InviteClientState.TheVariants.{Calling, Proceeding, Completed, Accepted, Terminated}
use Rattle.sip_txn.specs.declared.machine.Machine.{Machine}
use Rattle.sip_txn.specs.Timers.{last_moment, no_timers, EndsOnly, Waits}
use Rattle.sip_txn.specs.Machine.{Table, goes_to, silent, sends, passes}
use Rattle.sip_txn.specs.Runs.{EndsOnce, RunsOut, WaitsOut, RetransmitsAt, NeverSends, if_unreliable}

-- Timer A repeats in Calling, first after T1 and then at doubled intervals; timer B ends Calling after
-- 64 times T1, timer D ends Completed after 32 seconds, timer M ends Accepted after 64 times T1.
abbrev pub invite_client : Table InviteClientState
-- timer A: the request again
invite_client Calling RepeatDue = goes_to Calling (Again Doubled) (sends send.Request)
-- timer B
invite_client Calling EndDue = goes_to Terminated StopAll (passes pass.Timeout)
-- section 17.1.4
invite_client Calling (Event event.TransportError) = goes_to Terminated StopAll (passes pass.Fault)
-- timers A and B stop
invite_client Calling (Event event.Provisional) = goes_to Proceeding StopAll (passes pass.Response)
invite_client Proceeding (Event event.Provisional) = goes_to Proceeding Keep (passes pass.Response)
-- RFC 6026 section 7.2: timer M starts
invite_client Calling (Event event.Success) = goes_to Accepted (EndIn T1_TIMES_64) (passes pass.Response)
invite_client Proceeding (Event event.Success) = goes_to Accepted (EndIn T1_TIMES_64) (passes pass.Response)
-- section 17.1.1.3: the ACK; timer D starts
invite_client Calling (Event event.Failure) = goes_to Completed (Linger TIMER_D) (record { send = send.Ack; pass = pass.Response })
invite_client Proceeding (Event event.Failure) = goes_to Completed (Linger TIMER_D) (record { send = send.Ack; pass = pass.Response })
-- a failure again: it is acknowledged again
invite_client Completed (Event event.Failure) = goes_to Completed Keep (sends send.Ack)
-- the ACK could not be sent; the user has had its answer, and is not told
invite_client Completed (Event event.TransportError) = goes_to Terminated StopAll silent
-- timer D
invite_client Completed EndDue = goes_to Terminated StopAll silent
-- RFC 6026 section 7.2: a further 2xx is passed
invite_client Accepted (Event event.Success) = goes_to Accepted Keep (passes pass.Response)
-- timer M
invite_client Accepted EndDue = goes_to Terminated StopAll silent
-- the user gives it up
invite_client _ (Event event.Stop) = goes_to Terminated StopAll silent
invite_client _ _ = None

-- which timers run in each state: A and B, none, D, M, none
abbrev pub RunsTimersOf : Reliability → InviteClientState → Timers → Type 0
RunsTimersOf reliability Calling timers = Waits reliability last_moment timers
RunsTimersOf reliability Proceeding timers = timers ≡ no_timers
RunsTimersOf reliability Completed timers = EndsOnly timers
RunsTimersOf reliability Accepted timers = EndsOnly timers
RunsTimersOf reliability Terminated timers = timers ≡ no_timers

-- ---- laws

-- whether it is the end that is handed up: a failure, a timeout or a fault
abbrev pub ends : TxEvent → TxPass → Bool
ends event.Failure pass.Response = true
ends _ pass.Timeout = true
ends _ pass.Fault = true
ends _ _ = false

-- Whatever it is fed, it hands up at most one of a failure, a timeout and a fault.
abbrev pub HandsUpOneEnd : Machine InviteClientState → Type 0
HandsUpOneEnd m = EndsOnce invite_client (λ a. ends a.fed.event a.out.pass) m

-- By ticks alone Calling retransmits the request and times out (timers A and B); Completed and Accepted end
-- silently (timers D and M).
abbrev pub RunsOutByTicks : Reliability → InviteClientState → Machine InviteClientState → Type 0
RunsOutByTicks reliability Calling m = WaitsOut reliability invite_client Doubled (sends send.Request) (passes pass.Timeout) Terminated m
RunsOutByTicks reliability Proceeding m = Unit {0}
RunsOutByTicks reliability Completed m = RunsOut invite_client silent Terminated m
RunsOutByTicks reliability Accepted m = RunsOut invite_client silent Terminated m
RunsOutByTicks reliability Terminated m = Unit {0}

-- how many milliseconds after the start timer A fires, while timer B runs
abbrev pub retransmissions : List ℕ
retransmissions = 500 ∷ 1500 ∷ 3500 ∷ 7500 ∷ 15500 ∷ 31500 ∷ []

-- Started now and unanswered, it sends the request again each time, and then times out.
-- Over a reliable transport it times out, and whatever it is fed, the request goes no second time.
pub record RetransmitsUnanswered (reliability : Reliability) (now : ℕ) (m : Machine InviteClientState) : Type 0 where
  pub calling : RetransmitsAt invite_client (sends send.Request) (passes pass.Timeout) Terminated now (if_unreliable reliability retransmissions) m
  pub once : reliability ≡ Reliable → NeverSends invite_client send.Request m
