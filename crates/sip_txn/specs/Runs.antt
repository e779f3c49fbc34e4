-- What becomes of a machine over a list of events, and over ticks alone.
use Rattle.std.specs.Prelude.{◌≡◌, ◌≢◌, ℕ, zero, suc, ◌+◌, ◌≤◌, Bool, List, [], ◌∷◌, ◌++◌, None, IfSome, All, map, filter, length, count_by, nat_lt}
use Rattle.std.specs.Option.{option_map_or}
use Rattle.sip_txn.specs.declared.event.TxEvent.{TxEvent}
use Rattle.sip_txn.specs.declared.event.TxEvent.TheVariants.{Tick}
use Rattle.sip_txn.specs.declared.event.TxOut.{TxOut}
use Rattle.sip_txn.specs.declared.event.TxSend.{TxSend}
use Rattle.sip_txn.specs.declared.timers.TheConstants.{T1_TIMES_64}
use Rattle.sip_txn.specs.declared.timers.Reliability.{Reliability}
use Rattle.sip_txn.specs.declared.timers.Reliability.TheVariants.{Unreliable, Reliable}
use Rattle.sip_txn.specs.declared.timers.Repeat.{Repeat}
use Rattle.sip_txn.specs.declared.timers.Growth.{Growth}
use Rattle.sip_txn.specs.declared.machine.Machine.{Machine}
use Rattle.sip_txn.specs.Timers.{later, least, set_again, no_timers}
use Rattle.sip_txn.specs.Machine.{Table, machine_after, out_of, silent}

-- ---- lists of events

-- an event fed at a moment
pub record Fed : Type 0 where
  pub event : TxEvent
  pub at : ℕ

-- what a machine answered to it
pub record Answer : Type 0 where
  pub fed : Fed
  pub out : TxOut

-- the machine after a list of events
abbrev pub machine_after_all : {S : Type 0} → Table S → List Fed → Machine S → Machine S
machine_after_all table [] m = m
machine_after_all table (f ∷ fs) m = machine_after_all table fs (machine_after table f.event f.at m)

-- its answers to them, in turn
abbrev pub answers : {S : Type 0} → Table S → List Fed → Machine S → List Answer
answers table [] m = []
answers table (f ∷ fs) m = record { fed = f; out = out_of table f.event f.at m } ∷ answers table fs (machine_after table f.event f.at m)

-- Whatever it is fed, at most one of its answers is such an end.
pub record EndsOnce {S : Type 0} (table : Table S) (is_end : Answer → Bool) (m : Machine S) : Type 0 where
  pub once : (fed : List Fed) → count_by is_end (answers table fed m) ≤ 1

-- Nothing is due; whatever it is fed, it stays as it is, sends nothing and passes nothing.
pub record IsOver {S : Type 0} (table : Table S) (m : Machine S) : Type 0 where
  pub nothing_due : least m.timers ≡ None
  pub stays : (fed : List Fed) → machine_after_all table fed m ≡ m
  pub silent : (fed : List Fed) → All (λ a. a.out ≡ silent) (answers table fed m)

-- Whatever it is fed, it never sends this.
pub record NeverSends {S : Type 0} (table : Table S) (what : TxSend) (m : Machine S) : Type 0 where
  pub never : (fed : List Fed) → All (λ a. a.out.send ≢ what) (answers table fed m)

-- ---- ticks alone

abbrev pub tick : ℕ → Fed
tick at = record { event = Tick; at = at }

-- so many ticks, each at the moment that is due then; fewer, where nothing is due any more
abbrev pub ticks : {S : Type 0} → Table S → ℕ → Machine S → List Fed
ticks table zero m = []
ticks table (suc n) m = option_map_or (λ at. tick at ∷ ticks table n (machine_after table Tick at m)) (least m.timers) []

-- this answer to a tick at each of these moments
abbrev pub each : TxOut → List ℕ → List Answer
each out moments = map (λ at. record { fed = tick at; out = out }) moments

abbrev pub before : ℕ → List ℕ → List ℕ
before end moments = filter (λ at. nat_lt at end) moments

-- the moments at which a timer that repeats would fire, so many of them
abbrev pub moments : Growth → ℕ → Repeat → List ℕ
moments growth zero r = []
moments growth (suc n) r = r.at ∷ moments growth n (set_again growth r.at r)

-- So many ticks bring these answers, and then the machine is over.
pub record TicksBring {S : Type 0} (table : Table S) (over : S) (n : ℕ) (brought : List Answer) (m : Machine S) : Type 0 where
  pub answered : answers table (ticks table n m) m ≡ brought
  pub ended : machine_after_all table (ticks table n m) m ≡ record { state = over; timers = no_timers; reliability = m.reliability }

-- Where one timer alone runs, a tick or more bring its answer at its moment, and no other.
abbrev pub RunsOut : {S : Type 0} → Table S → TxOut → S → Machine S → Type 0
RunsOut table last over m =
    IfSome m.timers.end (λ end. (n : ℕ) → TicksBring table over (suc n) (each last (end ∷ [])) m)

-- Where one timer repeats and one ends the state, ticks bring a retransmission at each moment of the first that is
-- before the end, and then the end; enough of them, as each interval is at least a millisecond.
abbrev pub RetransmitsAndRunsOut : {S : Type 0} → Table S → Growth → TxOut → TxOut → S → Machine S → Type 0
RetransmitsAndRunsOut table growth again last over m =
    IfSome m.timers.end (λ end. IfSome m.timers.repeat (λ r. (n : ℕ) → end ≤ r.at + n →
    TicksBring table over (suc n) (each again (before end (moments growth n r)) ++ each last (end ∷ [])) m))

-- Over a reliable transport nothing is sent again: the timer that ends the state runs alone.
abbrev pub WaitsOut : {S : Type 0} → Reliability → Table S → Growth → TxOut → TxOut → S → Machine S → Type 0
WaitsOut Unreliable table growth again last over m = RetransmitsAndRunsOut table growth again last over m
WaitsOut Reliable table growth again last over m = RunsOut table last over m

-- these offsets over an unreliable transport, none over a reliable one
abbrev pub if_unreliable : Reliability → List ℕ → List ℕ
if_unreliable Unreliable offsets = offsets
if_unreliable Reliable offsets = []

-- From now on, ticks bring a retransmission at each of these offsets, and the end after 64 times T1; where moments
-- reach the greatest, what would not come before the end does not come.
abbrev pub RetransmitsAt : {S : Type 0} → Table S → TxOut → TxOut → S → ℕ → List ℕ → Machine S → Type 0
RetransmitsAt table again last over now offsets m =
    let end = later now T1_TIMES_64 in
    TicksBring table over (suc (length offsets)) (each again (before end (map (later now) offsets)) ++ each last (end ∷ [])) m
