-- The program's fault for that of a part.
-- Here: what no public contract reaches.
use Rattle.fork_program.specs.declared.script.ScriptFault.{ScriptFault}
use Rattle.fork_program.specs.declared.script.ScriptFault.TheVariants as read
use Rattle.fork_program.specs.declared.fault.ProgFault.{ProgFault}
use Rattle.fork_program.specs.declared.fault.ProgFault.TheVariants as prog

abbrev pub fault_read : ScriptFault → ProgFault
fault_read (read.Line number) = prog.Line number
fault_read read.NoMemory = prog.NoMemory
