-- Why workers print nothing, with the book that they left, where that is none of theirs.
use Rattle.std.specs.Prelude.{◌≢◌, ◌≤◌, ℕ, List, length}
use Rattle.fork_engine.specs.Faults.{IsTorn}
use Rattle.fork_program.specs.declared.fault.ProgFault.{ProgFault}
use Rattle.fork_program.specs.declared.fault.ProgFault.TheVariants as prog
use Rattle.fork_program.specs.Faults.{most_text}
use Rattle.fork_engine.specs.declared.text_fault.RunFault.{RunFault}
use Rattle.fork_engine.specs.declared.text_fault.RunFault.TheVariants as run
use Rattle.fork_engine.specs.TextFaults.{IsFork, IsRunFault, IsDriveFault}
use Rattle.fork_engine.specs.Spelling.{Spells}
use Rattle.fork_engine.specs.Workers.{Workers}

module _ {A : Type 0} where
  -- what the program says of it
  abbrev pub told : RunFault A → ProgFault
  told (run.Text fault) = fault
  told (run.Torn book) = prog.Torn

  -- torn only with a book that these workers cannot have left: it is not of their fork, or its history is no order of their events
  abbrev pub IsTrueRunFault : Workers → RunFault A → Type 0
  IsTrueRunFault workers (run.Text fault) = IsRunFault workers fault × (fault ≢ prog.Torn)
  IsTrueRunFault workers (run.Torn book) =
      IsFork workers.targets × IsTorn workers.kind workers.rules workers.targets workers.scripts book

  abbrev pub IsTrueDriveFault : List ℕ → RunFault A → Type 0
  IsTrueDriveFault text (run.Text fault) = IsDriveFault text fault × (fault ≢ prog.Torn)
  IsTrueDriveFault text (run.Torn book) =
      (length text ≤ most_text) × (workers : Workers) × Spells text workers × IsTrueRunFault workers (run.Torn book)
