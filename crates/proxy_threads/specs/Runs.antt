-- What is handed over to the workers that are on a group, and what they take, one after another.
use Rattle.std.specs.Prelude.{◌≡◌, List, [], ◌∷◌}
use Rattle.proxy_threads.specs.Groups.{GroupState, with_first, with_last}

pub data Step (T : Type 0) : Type 0 where
  -- a job is handed over
  HandedOver : T → Step T
  -- a worker takes the first that waits
  Taken : T → Step T
  -- a worker enters, or takes nothing since nothing waits: what waits stays the same
  Beside : Step T

module _ {T : Type 0} where
  -- what a step makes of a group
  abbrev pub IsStep : GroupState T → Step T → GroupState T → Type 0
  IsStep old (HandedOver job) new = new ≡ with_last old job
  IsStep old (Taken job) new = old ≡ with_first job new
  IsStep old Beside new = new.waiting ≡ old.waiting

  abbrev pub IsRun : GroupState T → List (Step T) → GroupState T → Type 0
  IsRun old [] new = new ≡ old
  IsRun old (step ∷ steps) new = (between : GroupState T) × IsStep old step between × IsRun between steps new

  -- the jobs that were handed over
  abbrev pub handed_over : List (Step T) → List T
  handed_over [] = []
  handed_over (HandedOver job ∷ steps) = job ∷ handed_over steps
  handed_over (_ ∷ steps) = handed_over steps

  -- the jobs that were taken
  abbrev pub taken : List (Step T) → List T
  taken [] = []
  taken (Taken job ∷ steps) = job ∷ taken steps
  taken (_ ∷ steps) = taken steps
