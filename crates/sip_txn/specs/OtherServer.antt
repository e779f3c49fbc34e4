-- The server transaction of a request other than INVITE (RFC 3261 section 17.2.2).
use Rattle.std.specs.Prelude.{◌≡◌, Bool, true, false, None}
use Rattle.sip_txn.specs.declared.timers.TheConstants.{T1_TIMES_64}
use Rattle.sip_txn.specs.declared.timers.Timers.{Timers}
use Rattle.sip_txn.specs.declared.timers.Reliability.{Reliability}
use Rattle.sip_txn.specs.declared.timers.TimerChange.TheVariants.{Keep, StopAll, Linger}
use Rattle.sip_txn.specs.declared.timers.MachineInput.TheVariants.{Event, EndDue}
use Rattle.sip_txn.specs.declared.event.TxEvent.TheVariants as event
use Rattle.sip_txn.specs.declared.event.TxSend.TheVariants as send
use Rattle.sip_txn.specs.declared.event.TxPass.{TxPass}
use Rattle.sip_txn.specs.declared.event.TxPass.TheVariants as pass
use Rattle.sip_txn.specs.declared.other_server.OtherServerState.{OtherServerState}
use Rattle.sip_txn.specs.declared.other_server.OtherServerState.TheVariants.{Trying, Proceeding, Completed, Terminated}
use Rattle.sip_txn.specs.declared.machine.Machine.{Machine}
use Rattle.sip_txn.specs.Timers.{no_timers, EndsOnly}
use Rattle.sip_txn.specs.Machine.{Table, goes_to, silent, sends, passes}
use Rattle.sip_txn.specs.Runs.{EndsOnce, RunsOut}

-- Timer J ends Completed after 64 times T1.
abbrev pub other_server : Table OtherServerState
-- a provisional of the user
other_server Trying (Event event.AnswerProvisional) = goes_to Proceeding Keep (sends send.Response)
other_server Proceeding (Event event.AnswerProvisional) = goes_to Proceeding Keep (sends send.Response)
-- a final response of the user; timer J starts
other_server Trying (Event event.AnswerSuccess) = goes_to Completed (Linger T1_TIMES_64) (sends send.Response)
other_server Proceeding (Event event.AnswerSuccess) = goes_to Completed (Linger T1_TIMES_64) (sends send.Response)
other_server Trying (Event event.AnswerFailure) = goes_to Completed (Linger T1_TIMES_64) (sends send.Response)
other_server Proceeding (Event event.AnswerFailure) = goes_to Completed (Linger T1_TIMES_64) (sends send.Response)
-- the request again: the latest response again
other_server Proceeding (Event event.Request) = goes_to Proceeding Keep (sends send.Response)
other_server Completed (Event event.Request) = goes_to Completed Keep (sends send.Response)
-- section 17.2.4: the user is told
other_server Proceeding (Event event.TransportError) = goes_to Terminated StopAll (passes pass.Fault)
other_server Completed (Event event.TransportError) = goes_to Terminated StopAll (passes pass.Fault)
-- timer J
other_server Completed EndDue = goes_to Terminated StopAll silent
other_server _ _ = None

-- which timers run in each state: none, none, J, none
abbrev pub RunsTimersOf : Reliability → OtherServerState → Timers → Type 0
RunsTimersOf reliability Trying timers = timers ≡ no_timers
RunsTimersOf reliability Proceeding timers = timers ≡ no_timers
RunsTimersOf reliability Completed timers = EndsOnly timers
RunsTimersOf reliability Terminated timers = timers ≡ no_timers

-- ---- laws

-- whether it is the end that is handed up: a fault
abbrev pub ends : TxPass → Bool
ends pass.Fault = true
ends _ = false

-- Whatever it is fed, it hands up at most one fault.
abbrev pub HandsUpOneEnd : Machine OtherServerState → Type 0
HandsUpOneEnd m = EndsOnce other_server (λ a. ends a.out.pass) m

-- By ticks alone Completed ends silently (timer J).
abbrev pub RunsOutByTicks : Reliability → OtherServerState → Machine OtherServerState → Type 0
RunsOutByTicks reliability Completed m = RunsOut other_server silent Terminated m
RunsOutByTicks reliability _ m = Unit {0}
