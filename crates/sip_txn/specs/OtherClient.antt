-- The client transaction of a request other than INVITE (RFC 3261 section 17.1.2.2).
use Rattle.std.specs.Prelude.{◌≡◌, ℕ, ◌<◌, Bool, true, false, List, [], ◌∷◌, None}
use Rattle.sip_txn.specs.declared.timers.TheConstants.{T1, T1_TIMES_64, T2, T4}
use Rattle.sip_txn.specs.declared.timers.Timers.{Timers}
use Rattle.sip_txn.specs.declared.timers.Reliability.{Reliability}
use Rattle.sip_txn.specs.declared.timers.Reliability.TheVariants.{Reliable}
use Rattle.sip_txn.specs.declared.timers.Growth.TheVariants.{DoubledUpToT2, SetToT2}
use Rattle.sip_txn.specs.declared.timers.TimerChange.TheVariants.{Keep, StopAll, Linger, Again}
use Rattle.sip_txn.specs.declared.timers.MachineInput.TheVariants.{Event, EndDue, RepeatDue}
use Rattle.sip_txn.specs.declared.event.TxEvent.{TxEvent}
use Rattle.sip_txn.specs.declared.event.TxEvent.TheVariants as event
use Rattle.sip_txn.specs.declared.event.TxSend.TheVariants as send
use Rattle.sip_txn.specs.declared.event.TxPass.{TxPass}
use Rattle.sip_txn.specs.declared.event.TxPass.TheVariants as pass
use Rattle.sip_txn.specs.declared.other_client.OtherClientState.{OtherClientState}
use Rattle.sip_txn.specs.declared.other_client.OtherClientState.TheVariants.{Trying, Proceeding, Completed, Terminated}
use Rattle.sip_txn.specs.declared.machine.Machine.{Machine}
use Rattle.sip_txn.specs.Timers.{later, no_timers, EndsOnly, Waits}
use Rattle.sip_txn.specs.Machine.{Table, goes_to, silent, sends, passes, machine_after}
use Rattle.sip_txn.specs.Runs.{EndsOnce, RunsOut, WaitsOut, RetransmitsAt, NeverSends, if_unreliable}

-- Timer E repeats in Trying, first after T1 and then at intervals doubled up to T2, and in Proceeding
-- at T2 once it has fired there; timer F ends both after 64 times T1, timer K ends Completed after T4.
abbrev pub other_client : Table OtherClientState
-- timer E: the request again
other_client Trying RepeatDue = goes_to Trying (Again DoubledUpToT2) (sends send.Request)
other_client Proceeding RepeatDue = goes_to Proceeding (Again SetToT2) (sends send.Request)
-- timer F
other_client Trying EndDue = goes_to Terminated StopAll (passes pass.Timeout)
other_client Proceeding EndDue = goes_to Terminated StopAll (passes pass.Timeout)
-- section 17.1.4
other_client Trying (Event event.TransportError) = goes_to Terminated StopAll (passes pass.Fault)
other_client Proceeding (Event event.TransportError) = goes_to Terminated StopAll (passes pass.Fault)
-- timers E and F run on
other_client Trying (Event event.Provisional) = goes_to Proceeding Keep (passes pass.Response)
other_client Proceeding (Event event.Provisional) = goes_to Proceeding Keep (passes pass.Response)
-- timer K starts
other_client Trying (Event event.Success) = goes_to Completed (Linger T4) (passes pass.Response)
other_client Proceeding (Event event.Success) = goes_to Completed (Linger T4) (passes pass.Response)
other_client Trying (Event event.Failure) = goes_to Completed (Linger T4) (passes pass.Response)
other_client Proceeding (Event event.Failure) = goes_to Completed (Linger T4) (passes pass.Response)
-- timer K
other_client Completed EndDue = goes_to Terminated StopAll silent
-- the user gives it up
other_client _ (Event event.Stop) = goes_to Terminated StopAll silent
other_client _ _ = None

-- which timers run in each state: E and F, E and F, K, none
abbrev pub RunsTimersOf : Reliability → OtherClientState → Timers → Type 0
RunsTimersOf reliability Trying timers = Waits reliability T2 timers
RunsTimersOf reliability Proceeding timers = Waits reliability T2 timers
RunsTimersOf reliability Completed timers = EndsOnly timers
RunsTimersOf reliability Terminated timers = timers ≡ no_timers

-- ---- laws

-- whether it is the end that is handed up: a success, a failure, a timeout or a fault
abbrev pub ends : TxEvent → TxPass → Bool
ends event.Success pass.Response = true
ends event.Failure pass.Response = true
ends _ pass.Timeout = true
ends _ pass.Fault = true
ends _ _ = false

-- Whatever it is fed, it hands up at most one of a success, a failure, a timeout and a fault.
abbrev pub HandsUpOneEnd : Machine OtherClientState → Type 0
HandsUpOneEnd m = EndsOnce other_client (λ a. ends a.fed.event a.out.pass) m

-- By ticks alone Trying and Proceeding retransmit the request and time out (timers E and F); Completed ends
-- silently (timer K).
abbrev pub RunsOutByTicks : Reliability → OtherClientState → Machine OtherClientState → Type 0
RunsOutByTicks reliability Trying m = WaitsOut reliability other_client DoubledUpToT2 (sends send.Request) (passes pass.Timeout) Terminated m
RunsOutByTicks reliability Proceeding m = WaitsOut reliability other_client SetToT2 (sends send.Request) (passes pass.Timeout) Terminated m
RunsOutByTicks reliability Completed m = RunsOut other_client silent Terminated m
RunsOutByTicks reliability Terminated m = Unit {0}

-- how many milliseconds after the start timer E fires in Trying, while timer F runs
abbrev pub retransmissions : List ℕ
retransmissions = 500 ∷ 1500 ∷ 3500 ∷ 7500 ∷ 11500 ∷ 15500 ∷ 19500 ∷ 23500 ∷ 27500 ∷ 31500 ∷ []

-- and how many where a provisional comes between the first and the second time, from the second on
abbrev pub retransmissions_proceeding : List ℕ
retransmissions_proceeding = 1500 ∷ 5500 ∷ 9500 ∷ 13500 ∷ 17500 ∷ 21500 ∷ 25500 ∷ 29500 ∷ []

-- the machine after its first tick, and then a provisional
abbrev pub after_provisional : ℕ → ℕ → Machine OtherClientState → Machine OtherClientState
after_provisional now at m =
    machine_after other_client event.Provisional at (machine_after other_client event.Tick (later now T1) m)

-- Started now and unanswered, it sends the request again each time, and then times out.
-- Over a reliable transport it times out, and whatever it is fed, the request goes no second time.
pub record RetransmitsUnanswered (reliability : Reliability) (now : ℕ) (m : Machine OtherClientState) : Type 0 where
  pub trying : RetransmitsAt other_client (sends send.Request) (passes pass.Timeout) Terminated now (if_unreliable reliability retransmissions) m
  pub proceeding : (at : ℕ) → later now T1 < later now T1_TIMES_64 →
      RetransmitsAt other_client (sends send.Request) (passes pass.Timeout) Terminated now (if_unreliable reliability retransmissions_proceeding) (after_provisional now at m)
  pub once : reliability ≡ Reliable → NeverSends other_client send.Request m
