-- What reading a script with workers gives, want of memory aside.
-- Here: what no public contract reaches.
use Rattle.std.specs.Prelude.{◌≡◌, ℕ, List, Result, Ok, Err}
use Rattle.fork_program.specs.declared.script.ScriptFault.{ScriptFault}
use Rattle.fork_program.specs.declared.script.ScriptFault.TheVariants as read
use Rattle.fork_engine.specs.Workers.{Workers}
use Rattle.fork_engine.specs.Malformed.{IsMalformedAt}

abbrev pub GivesWorkers : Result Workers ℕ → Result Workers ScriptFault → Type 0
GivesWorkers expected (Ok workers) = expected ≡ Ok workers
GivesWorkers expected (Err (read.Line number)) = expected ≡ Err number
GivesWorkers expected (Err read.NoMemory) = Unit {0}

-- the fault names the first malformed line, or is want of memory
abbrev pub IsFaultOf : List ℕ → ScriptFault → Type 0
IsFaultOf text (read.Line number) = IsMalformedAt text number
IsFaultOf text read.NoMemory = Unit {0}
