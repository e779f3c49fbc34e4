-- A tick at a moment when a timer is due (RFC 3261 section 17).
use Rattle.std.specs.Prelude.{◌≡◌, ◌≢◌, ℕ, true, None}
use Rattle.sip_txn.specs.declared.event.TxEvent.TheVariants.{Tick}
use Rattle.sip_txn.specs.declared.timers.Timers.{Timers}
use Rattle.sip_txn.specs.declared.timers.Reliability.{Reliability}
use Rattle.sip_txn.specs.declared.machine.Machine.{Machine}
use Rattle.sip_txn.specs.Timers.{input_of, is_due, least}
use Rattle.sip_txn.specs.Machine.{Table}

-- Once the earliest running timer has come, the table has a row for a tick.
abbrev pub ActsWhenDue : {S : Type 0} → Table S → (Reliability → S → Timers → Type 0) → Type 0
ActsWhenDue {S} table runs =
    (m : Machine S) (now : ℕ) → runs m.reliability m.state m.timers → is_due now (least m.timers) ≡ true → table m.state (input_of Tick now m.timers) ≢ None
