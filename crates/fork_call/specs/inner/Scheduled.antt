-- How a call knows at once whether something is due: a moment for each row, and the least of them.
-- Here: what no public contract reaches.
use Rattle.std.specs.Prelude.{ℕ, Bool, true, false, ◌≡◌, List, [], ◌++◌, Option, Some, None, fold, nat_lt, slice_get}
use Rattle.fork_model.specs.Reply.{Reply}
use Rattle.fork_model.specs.Sources.{IsNumberIn}
use Rattle.sip_txn.specs.Timers.{earlier, is_due}
use Rattle.call_model.specs.Call.{Call, found, nth_branch, rows_of}
use Rattle.fork_call.specs.Scheduled.{due_of}

-- the least of all
abbrev pub least_of : List (Option ℕ) → Option ℕ
least_of moments = fold earlier None moments

-- ---- rows that are still to be timed

-- the moment at a number; past the end there is none
abbrev pub moment_at : List (Option ℕ) → ℕ → Option ℕ
moment_at moments n = found (slice_get moments n)

-- every row but these has its moment
pub record IsTimedBut (call : Call) (rows : List ℕ) (moments : List (Option ℕ)) : Type 0 where
  pub timed : (n : ℕ) → (IsNumberIn rows n → ⊥) → moment_at moments n ≡ due_of (slice_get (rows_of call) n) (nth_branch call n)

-- the rows that a reply starts or cancels
abbrev pub rows_in : Option Reply → List ℕ
rows_in None = []
rows_in (Some reply) = reply.started ++ reply.cancelled

-- a moment comes before another; none comes after all
abbrev pub comes_before : Option ℕ → Option ℕ → Bool
comes_before None other = false
comes_before (Some at) None = true
comes_before (Some at) (Some other) = nat_lt at other

-- the moment at this place has come
abbrev pub IsDueAt : List (Option ℕ) → (now n : ℕ) → Type 0
IsDueAt moments now n = (moment : Option ℕ) × (slice_get moments n ≡ Some moment) × (is_due now moment ≡ true)
