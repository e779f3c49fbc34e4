-- The program's fault for that of a part.
use Rattle.std.specs.Prelude.{ℕ}
use Rattle.fork_context.specs.declared.context.NewFault.{NewFault}
use Rattle.fork_context.specs.declared.context.NewFault.TheVariants as setup
use Rattle.fork_program.specs.declared.fault.ProgFault.{ProgFault}
use Rattle.fork_program.specs.declared.fault.ProgFault.TheVariants as prog
use Rattle.fork_program.specs.declared.fault.Fault.{Fault}
use Rattle.fork_program.specs.declared.fault.Fault.TheVariants as fault

abbrev pub fault_set_up : NewFault → ProgFault
fault_set_up setup.NoMemory = prog.NoMemory
fault_set_up fault = prog.New fault

-- 1 for a refused text, 2 for usage, 3 for want of memory, 5 for reading and writing
abbrev pub exit_status : Fault → ℕ
exit_status fault.Usage = 2
exit_status fault.Read = 5
exit_status fault.Write = 5
exit_status (fault.Text prog.NoMemory) = 3
exit_status (fault.Text _) = 1
