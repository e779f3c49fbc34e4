-- The fault of a text with workers for that of their run.
use Rattle.fork_engine.specs.declared.fault.DriveFault.{DriveFault}
use Rattle.fork_engine.specs.declared.fault.DriveFault.TheVariants as run
use Rattle.fork_program.specs.declared.fault.ProgFault.TheVariants as prog
use Rattle.fork_program.specs.FaultView.{fault_set_up}
use Rattle.fork_engine.specs.declared.text_fault.RunFault.{RunFault}
use Rattle.fork_engine.specs.declared.text_fault.RunFault.TheVariants as text

module _ {A : Type 0} where
  abbrev pub fault_driven : DriveFault A → RunFault A
  fault_driven (run.New fault) = text.Text (fault_set_up fault)
  fault_driven run.Full = text.Text prog.Stopped
  fault_driven run.NoMemory = text.Text prog.NoMemory
  fault_driven (run.Torn book) = text.Torn book
