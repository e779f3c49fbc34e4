-- A group of calls while workers handle what comes of them.
use Rattle.std.specs.Prelude.{◌≡◌, ◌≤◌, ℕ, Bool, false, List, [], ◌∷◌, ◌++◌, length}

-- no more jobs wait in a group
abbrev pub most_waiting : ℕ
most_waiting = 1024

pub record GroupState (T : Type 0) : Type 0 where
  -- whether a worker is on the group
  pub busy : Bool
  -- what was handed over to that worker and waits, in the order in which it was handed over
  pub waiting : List T

module _ {T : Type 0} where
  -- where no worker is on a group nothing waits, and never do too many
  abbrev pub IsAttended : Bool → List T → Type 0
  IsAttended busy waiting = (busy ≡ false → waiting ≡ []) × (length waiting ≤ most_waiting)

  -- a job waits behind all that wait
  abbrev pub with_last : GroupState T → T → GroupState T
  with_last g job = record { busy = g.busy; waiting = g.waiting ++ job ∷ [] }

  -- a job waits before all that wait
  abbrev pub with_first : T → GroupState T → GroupState T
  with_first job g = record { busy = g.busy; waiting = job ∷ g.waiting }
