-- Why a text is not replayed, in the order in which the causes are looked for.
-- Here: what no public contract reaches.
use Rattle.fork_program.specs.declared.fault.ProgFault.{ProgFault}
use Rattle.fork_program.specs.declared.fault.ProgFault.TheVariants as prog
use Rattle.fork_program.specs.Script.{Script}
use Rattle.fork_program.specs.Faults.{IsSetupFault}

abbrev pub IsForkRefusal : Script → ProgFault → Type 0
IsForkRefusal script prog.TooLong = ⊥
IsForkRefusal script (prog.Line number) = ⊥
IsForkRefusal script (prog.New fault) = IsSetupFault script.targets fault
IsForkRefusal script prog.Stopped = ⊥
IsForkRefusal script prog.Torn = ⊥
IsForkRefusal script prog.NoMemory = Unit {0}
