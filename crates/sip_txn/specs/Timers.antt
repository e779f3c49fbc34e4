-- How the timers of a transaction run (RFC 3261 section 17; its table 4 has the values). Moments and
-- intervals are milliseconds. In each state at most two run: one that repeats, and one that ends it.
use Rattle.std.specs.Prelude.{◌≡◌, ℕ, ◌+◌, ◌-◌, ◌*◌, ◌^◌, ◌≤◌, Bool, false, Option, Some, None, if◌then◌else◌, nat_le, min, option_map, IsSomeAnd}
use Rattle.sip_txn.specs.declared.event.TxEvent.{TxEvent}
use Rattle.sip_txn.specs.declared.event.TxEvent.TheVariants.{Tick}
use Rattle.sip_txn.specs.declared.timers.TheConstants.{T1, T2, T1_TIMES_64}
use Rattle.sip_txn.specs.declared.timers.Repeat.{Repeat}
use Rattle.sip_txn.specs.declared.timers.Timers.{Timers}
use Rattle.sip_txn.specs.declared.timers.Reliability.{Reliability}
use Rattle.sip_txn.specs.declared.timers.Reliability.TheVariants.{Unreliable, Reliable}
use Rattle.sip_txn.specs.declared.timers.Growth.{Growth}
use Rattle.sip_txn.specs.declared.timers.Growth.TheVariants.{Doubled, DoubledUpToT2, SetToT2}
use Rattle.sip_txn.specs.declared.timers.TimerChange.{TimerChange}
use Rattle.sip_txn.specs.declared.timers.TimerChange.TheVariants.{Keep, StopAll, EndIn, Linger, RepeatAndEnd, Again}
use Rattle.sip_txn.specs.declared.timers.MachineInput.{MachineInput}
use Rattle.sip_txn.specs.declared.timers.MachineInput.TheVariants.{Event, EndDue, RepeatDue, NothingDue}

-- the greatest moment
abbrev pub last_moment : ℕ
last_moment = 2 ^ 64 - 1

-- a moment that much later; past the greatest it stays there
abbrev pub later : ℕ → ℕ → ℕ
later now interval = min (now + interval) last_moment

-- ---- timers

abbrev pub no_timers : Timers
no_timers = record { repeat = None; end = None }

-- one alone, which ends the state this long from now
abbrev pub ends_after : ℕ → ℕ → Timers
ends_after interval now = record { repeat = None; end = Some (later now interval) }

-- one that repeats, first after T1, and one that ends the state after 64 times T1
abbrev pub repeats_and_ends : ℕ → Timers
repeats_and_ends now = record { repeat = Some (record { at = later now T1; interval = T1 }); end = Some (later now T1_TIMES_64) }

-- one that ends the state after 64 times T1, and over an unreliable transport one that repeats (sections 17.1.1.2,
-- 17.1.2.2 and 17.2.1: timers A, E and G)
abbrev pub waits : Reliability → ℕ → Timers
waits Unreliable now = repeats_and_ends now
waits Reliable now = ends_after T1_TIMES_64 now

-- how long a state lasts that absorbs what comes again: over a reliable transport no time at all (timers D, I, J and K)
abbrev pub lingering : Reliability → ℕ → ℕ
lingering Unreliable interval = interval
lingering Reliable interval = 0

-- the interval after this one
abbrev pub grown_to : Growth → ℕ → ℕ
grown_to Doubled interval = min (2 * interval) last_moment
grown_to DoubledUpToT2 interval = min (2 * interval) T2
grown_to SetToT2 interval = T2

-- a timer that fired now, set again
abbrev pub set_again : Growth → ℕ → Repeat → Repeat
set_again growth now r = record { at = later now (grown_to growth r.interval); interval = grown_to growth r.interval }

-- what a row does to the timers
abbrev pub run_clock : Reliability → TimerChange → ℕ → Timers → Timers
run_clock reliability Keep now timers = timers
run_clock reliability StopAll now timers = no_timers
run_clock reliability (EndIn interval) now timers = ends_after interval now
run_clock reliability (Linger interval) now timers = ends_after (lingering reliability interval) now
run_clock reliability RepeatAndEnd now timers = waits reliability now
run_clock reliability (Again growth) now timers = record timers { repeat = option_map (set_again growth now) timers.repeat }

-- ---- what is due

abbrev pub moment_of : Option Repeat → Option ℕ
moment_of None = None
moment_of (Some r) = Some r.at

abbrev pub earlier : Option ℕ → Option ℕ → Option ℕ
earlier None b = b
earlier (Some a) None = Some a
earlier (Some a) (Some b) = Some (min a b)

-- the moment of the earliest running timer
abbrev pub least : Timers → Option ℕ
least timers = earlier (moment_of timers.repeat) timers.end

abbrev pub is_due : ℕ → Option ℕ → Bool
is_due now None = false
is_due now (Some at) = nat_le at now

-- A tick is for a timer that is due, and first for the one that ends the state.
abbrev pub input_of : TxEvent → ℕ → Timers → MachineInput
input_of Tick now timers = if is_due now timers.end then EndDue else (if is_due now (moment_of timers.repeat) then RepeatDue else NothingDue)
input_of event now timers = Event event

-- ---- which timers run

-- one alone, which ends the state
abbrev pub EndsOnly : Timers → Type 0
EndsOnly timers = (timers.repeat ≡ None) × IsSomeAnd timers.end (λ at. at ≤ last_moment)

-- one that ends the state, and one that repeats at intervals from T1 up to this one
abbrev pub RepeatsAndEnds : ℕ → Timers → Type 0
RepeatsAndEnds most timers = IsSomeAnd timers.repeat (λ r. (T1 ≤ r.interval) × (r.interval ≤ most)) × IsSomeAnd timers.end (λ at. at ≤ last_moment)

-- one that ends the state, and over an unreliable transport one that repeats
abbrev pub Waits : Reliability → ℕ → Timers → Type 0
Waits Unreliable most timers = RepeatsAndEnds most timers
Waits Reliable most timers = EndsOnly timers
