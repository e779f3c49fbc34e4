-- What reading a script gives, want of memory aside.
use Rattle.std.specs.Prelude.{◌≡◌, ℕ, List, Result, Ok, Err}
use Rattle.fork_program.specs.declared.script.ScriptFault.{ScriptFault}
use Rattle.fork_program.specs.declared.script.ScriptFault.TheVariants as read
use Rattle.fork_program.specs.Script.{Script}
use Rattle.fork_program.specs.Malformed.{IsMalformedAt}

abbrev pub GivesScript : Result Script ℕ → Result Script ScriptFault → Type 0
GivesScript expected (Ok script) = expected ≡ Ok script
GivesScript expected (Err (read.Line number)) = expected ≡ Err number
GivesScript expected (Err read.NoMemory) = Unit {0}

-- the fault names the first malformed line, or is want of memory
abbrev pub IsFaultOf : List ℕ → ScriptFault → Type 0
IsFaultOf text (read.Line number) = IsMalformedAt text number
IsFaultOf text read.NoMemory = Unit {0}
