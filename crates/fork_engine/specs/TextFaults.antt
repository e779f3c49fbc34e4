-- Why workers are not run, or print nothing, in the order in which the causes are looked for.
use Rattle.std.specs.Prelude.{◌≡◌, ◌<◌, ◌≤◌, ℕ, List, ◌++◌, length, sum_by}
use Rattle.fork_model.specs.Core.{most_strays}
use Rattle.fork_model.specs.History.{Target}
use Rattle.fork_context.specs.declared.context.NewFault.{NewFault}
use Rattle.fork_model.specs.Log.{Log, table_of}
use Rattle.fork_program.specs.declared.fault.ProgFault.{ProgFault}
use Rattle.fork_program.specs.declared.fault.ProgFault.TheVariants as prog
use Rattle.fork_program.specs.Faults.{most_text, IsSetupFault}
use Rattle.fork_program.specs.RightListing.{EndsInRightListing}
use Rattle.fork_engine.specs.Workers.{Workers}
use Rattle.fork_engine.specs.Spelling.{Spells}
use Rattle.fork_engine.specs.Malformed.{IsMalformedAt}
use Rattle.fork_engine.specs.Run.{IsRun, IsPrinted}
use Rattle.fork_engine.specs.Headline.{IsDone}

-- the targets are a fork
abbrev pub IsFork : List Target → Type 0
IsFork targets = (fault : NewFault) → IsSetupFault targets fault → ⊥

-- what the program says: stopped only where the workers have more events than a context takes whatever they are. Of a torn run the
-- program says no more, since its book is gone, and there is always some book that is none of these workers'; `drive_text` hands the
-- book out, and says of it what it is (`IsTrueDriveFault`).
abbrev pub IsRunFault : Workers → ProgFault → Type 0
IsRunFault workers prog.TooLong = ⊥
IsRunFault workers (prog.Line number) = ⊥
IsRunFault workers (prog.New fault) = IsSetupFault workers.targets fault
IsRunFault workers prog.Stopped = IsFork workers.targets × (most_strays < sum_by length workers.scripts)
IsRunFault workers prog.Torn = IsFork workers.targets
IsRunFault workers prog.NoMemory = Unit {0}

abbrev pub IsReadAndRunFault : List ℕ → ProgFault → Type 0
IsReadAndRunFault text fault =
    (length text ≤ most_text) × (workers : Workers) × Spells text workers × IsRunFault workers fault

abbrev pub IsDriveFault : List ℕ → ProgFault → Type 0
IsDriveFault text prog.TooLong = most_text < length text
IsDriveFault text (prog.Line number) = (length text ≤ most_text) × IsMalformedAt text number
IsDriveFault text (prog.New fault) = IsReadAndRunFault text (prog.New fault)
IsDriveFault text prog.Stopped = IsReadAndRunFault text prog.Stopped
IsDriveFault text prog.Torn = IsReadAndRunFault text prog.Torn
IsDriveFault text prog.NoMemory = Unit {0}

-- the workers' targets are a fork, and what is printed is a run of the workers; where its fork is done, that ends in its
-- listing, which a check accepts
pub record PrintsRun (workers : Workers) (printed : List ℕ) : Type 0 where
  pub fork : IsFork workers.targets
  pub log : Log
  pub run : IsRun workers log
  pub right : IsPrinted log printed
  pub listed : IsDone log → EndsInRightListing (table_of log) printed

-- the text spells a script with workers, and a run of them was appended
pub record AppendsRun (text old new : List ℕ) : Type 0 where
  pub short : length text ≤ most_text
  pub workers : Workers
  pub read : Spells text workers
  pub printed : List ℕ
  pub right : PrintsRun workers printed
  pub spelled : new ≡ old ++ printed
