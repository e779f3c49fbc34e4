-- A machine fed with nothing but ticks, each when it is due.
use Rattle.sip_txn.proofs.Common.{Reliability, Reliable, Unreliable, ◌≡◌, ℕ, zero, suc, ◌≤◌, ◌<◌, List, [], ◌∷◌, Option, Some, None, ap, refl, ◌∙◌, arith, T1_TIMES_64, Waits, map, Repeat, Growth, Again, EndDue, RepeatDue, Machine, last_moment, later, least, no_timers, set_again, EndsOnly, RepeatsAndEnds}
use Rattle.sip_txn.proofs.Common.{Table, Answer, answers, machine_after_all, before, moments}
use Rattle.std.proofs.Common.{◌++◌, inl, inr, Bool, true, false}
use Rattle.std.proofs.lemmas.Bool.{false≢true}
use Rattle.std.proofs.lemmas.Bool.Decides.{leb_tells}
use Rattle.sip_txn.specs.declared.event.TxOut.{TxOut}
use Rattle.sip_txn.specs.declared.timers.TimerChange.TheVariants.{StopAll}
use Rattle.sip_txn.specs.Machine.{goes_to}
use Rattle.sip_txn.specs.Runs.{ticks, each, TicksBring, RunsOut, RetransmitsAndRunsOut, WaitsOut, RetransmitsAt, if_unreliable}
use Rattle.sip_txn.proofs.Moments.{nth, nth_passes, none_before, offset, offsets, started, nth-started, moments-started}

abbrev is_reliable : Reliability → Bool
is_reliable Unreliable = false
is_reliable Reliable = true

pub reliable_alone : Unreliable ≡ Reliable → ⊥
reliable_alone e = false≢true (ap is_reliable e)

-- ---- a machine without timers

abbrev pub over_at : {S : Type 0} → Reliability → S → Machine S
over_at t over = record { state = over; timers = no_timers; reliability = t }

-- ---- the timer that ends the state is due

abbrev pub running : {S : Type 0} → Reliability → S → Option Repeat → ℕ → Machine S
running t s repeat end = record { state = s; timers = record { repeat = repeat; end = Some end }; reliability = t }

pub answers-end : {S : Type 0} (t : Reliability) (table : Table S) (s over : S) (last : TxOut) → table s EndDue ≡ goes_to over StopAll last → (repeat : Option Repeat) (end n : ℕ)
    → least (running t s repeat end).timers ≡ Some end → answers table (ticks table (suc n) (running t s repeat end)) (running t s repeat end) ≡ each last (end ∷ [])
answers-end t table s over last row repeat end n due = grind arith

pub machine-end : {S : Type 0} (t : Reliability) (table : Table S) (s over : S) (last : TxOut) → table s EndDue ≡ goes_to over StopAll last → (repeat : Option Repeat) (end n : ℕ)
    → least (running t s repeat end).timers ≡ Some end → machine_after_all table (ticks table (suc n) (running t s repeat end)) (running t s repeat end) ≡ over_at t over
machine-end t table s over last row repeat end n due = grind arith

-- ---- the whole way

-- a machine that retransmits in a state until the state ends
pub record Retransmits {S : Type 0} (table : Table S) (s over : S) (growth : Growth) (again last : TxOut) : Type 0 where
  pub again_row : table s RepeatDue ≡ goes_to s (Again growth) again
  pub end_row : table s EndDue ≡ goes_to over StopAll last

-- what a machine answers to so many ticks, and where it then stands
abbrev pub ticked : {S : Type 0} → Table S → ℕ → Machine S → List Answer
ticked table n m = answers table (ticks table n m) m

abbrev pub machine_ticked : {S : Type 0} → Table S → ℕ → Machine S → Machine S
machine_ticked table n m = machine_after_all table (ticks table n m) m

abbrev pub whole_run : TxOut → TxOut → ℕ → List ℕ → List Answer
whole_run again last end at = each again (before end at) ++ each last (end ∷ [])

answers_at_end : {S : Type 0} (t : Reliability) (table : Table S) (s over : S) (growth : Growth) (again last : TxOut) → Retransmits table s over growth again last
    → (n : ℕ) (r : Repeat) (end : ℕ) → end ≤ last_moment → end ≤ r.at
    → ticked table (suc n) (running t s (Some r) end) ≡ whole_run again last end (moments growth n r)
answers_at_end t table s over growth again last rows n r end most h = grind (arith, none_before)

answers_again : {S : Type 0} (t : Reliability) (table : Table S) (s over : S) (growth : Growth) (again last : TxOut) → Retransmits table s over growth again last
    → (n : ℕ) (r : Repeat) (end : ℕ) → r.at < end
    → ticked table (suc n) (running t s (Some (set_again growth r.at r)) end) ≡ whole_run again last end (moments growth n (set_again growth r.at r))
    → ticked table (suc (suc n)) (running t s (Some r) end) ≡ whole_run again last end (moments growth (suc n) r)
answers_again t table s over growth again last rows n r end h rest = grind arith

-- Ticks alone bring a retransmission at each moment before the end, and the end.
pub answers-run : {S : Type 0} (t : Reliability) (table : Table S) (s over : S) (growth : Growth) (again last : TxOut) → Retransmits table s over growth again last
    → (n : ℕ) (r : Repeat) (end : ℕ) → end ≤ last_moment → end ≤ (nth growth n r).at
    → ticked table (suc n) (running t s (Some r) end) ≡ whole_run again last end (moments growth n r)
answers-run t table s over growth again last rows zero r end most far = answers_at_end t table s over growth again last rows zero r end most far
answers-run t table s over growth again last rows (suc n) r end most far =
    let rest = answers-run t table s over growth again last rows n (set_again growth r.at r) end most far in
    elim (leb_tells end r.at) [
      | inl h ↦ answers_at_end t table s over growth again last rows (suc n) r end most h.1
      | inr h ↦ answers_again t table s over growth again last rows n r end h.1 rest
    ]

-- .. and then it is over.
pub machine-run : {S : Type 0} (t : Reliability) (table : Table S) (s over : S) (growth : Growth) (again last : TxOut) → Retransmits table s over growth again last
    → (n : ℕ) (r : Repeat) (end : ℕ) → end ≤ last_moment → end ≤ (nth growth n r).at
    → machine_ticked table (suc n) (running t s (Some r) end) ≡ over_at t over
machine-run t table s over growth again last rows zero r end most far = grind arith
machine-run t table s over growth again last rows (suc n) r end most far =
    let rest = machine-run t table s over growth again last rows n (set_again growth r.at r) end most far in
    grind arith

-- ---- the laws

-- a state in which one timer repeats and one ends it
pub runs_out_repeating : {S : Type 0} (t : Reliability) (table : Table S) (s over : S) (growth : Growth) (again last : TxOut) → Retransmits table s over growth again last
    → (most : ℕ) (repeat : Option Repeat) (end : Option ℕ) → RepeatsAndEnds most (record { repeat = repeat; end = end })
    → RetransmitsAndRunsOut table growth again last over (record { state = s; timers = record { repeat = repeat; end = end }; reliability = t })
runs_out_repeating t table s over growth again last rows most None end h = absurd h.0
runs_out_repeating t table s over growth again last rows most (Some r) None h = absurd h.1
runs_out_repeating t table s over growth again last rows most (Some r) (Some end) h =
    λ n near.
    let far = nth_passes growth n r end h.1 (omega (arith, h.0.0)) near in
    record {
      answered = answers-run t table s over growth again last rows n r end h.1 far;
      ended = machine-run t table s over growth again last rows n r end h.1 far;
    }

-- a state in which one timer alone runs, and ends it
pub runs_out_alone : {S : Type 0} (t : Reliability) (table : Table S) (s over : S) (last : TxOut) → table s EndDue ≡ goes_to over StopAll last
    → (repeat : Option Repeat) (end : Option ℕ) → EndsOnly (record { repeat = repeat; end = end })
    → RunsOut table last over (record { state = s; timers = record { repeat = repeat; end = end }; reliability = t })
runs_out_alone t table s over last row repeat end h = grind (arith, answers-end, machine-end)

-- timers that started now, of which the one that repeats has got so far
pub runs_out_started : {S : Type 0} (t : Reliability) (table : Table S) (s over : S) (growth : Growth) (again last : TxOut) → Retransmits table s over growth again last
    → (now a interval b n : ℕ) → b ≤ offset growth n a interval
    → TicksBring table over (suc n) (whole_run again last (later now b) (map (later now) (offsets growth n a interval))) (running t s (Some (started now a interval)) (later now b))
runs_out_started t table s over growth again last rows now a interval b n far =
    let e = nth-started growth n now a interval in
    let passed : later now b ≤ (nth growth n (started now a interval)).at = omega arith in
    record {
      answered = answers-run t table s over growth again last rows n (started now a interval) (later now b) (omega arith) passed
          ∙ ap (λ at. whole_run again last (later now b) at) (moments-started growth n now a interval);
      ended = machine-run t table s over growth again last rows n (started now a interval) (later now b) (omega arith) passed;
    }

-- a state that waits, over either transport
pub runs_out_waiting : {S : Type 0} (t : Reliability) (table : Table S) (s over : S) (growth : Growth) (again last : TxOut) → Retransmits table s over growth again last
    → (most : ℕ) (repeat : Option Repeat) (end : Option ℕ) → Waits t most (record { repeat = repeat; end = end })
    → WaitsOut t table growth again last over (record { state = s; timers = record { repeat = repeat; end = end }; reliability = t })
runs_out_waiting Unreliable table s over growth again last rows most repeat end h = runs_out_repeating Unreliable table s over growth again last rows most repeat end h
runs_out_waiting Reliable table s over growth again last rows most repeat end h = runs_out_alone Reliable table s over last rows.end_row repeat end h

-- the timer that ends a state has started now, and none repeats
pub runs_out_once : {S : Type 0} (table : Table S) (s over : S) (again last : TxOut) → table s EndDue ≡ goes_to over StopAll last
    → (now : ℕ) (offsets : List ℕ) → RetransmitsAt table again last over now (if_unreliable Reliable offsets) (running Reliable s None (later now T1_TIMES_64))
runs_out_once table s over again last row now offsets = record {
  answered = answers-end Reliable table s over last row None (later now T1_TIMES_64) zero refl;
  ended = machine-end Reliable table s over last row None (later now T1_TIMES_64) zero refl;
}
