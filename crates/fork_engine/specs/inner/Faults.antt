-- Why workers are not run, or print nothing, in the order in which the causes are looked for.
-- Here: what no public contract reaches.
use Rattle.std.specs.Prelude.{List}
use Rattle.fork_model.specs.History.{Target}
use Rattle.fork_program.specs.declared.fault.ProgFault.{ProgFault}
use Rattle.fork_program.specs.declared.fault.ProgFault.TheVariants as prog
use Rattle.fork_program.specs.Faults.{IsSetupFault}

-- the targets are no fork, or a growth was refused
abbrev pub IsFirstFault : List Target → ProgFault → Type 0
IsFirstFault targets prog.TooLong = ⊥
IsFirstFault targets (prog.Line number) = ⊥
IsFirstFault targets (prog.New fault) = IsSetupFault targets fault
IsFirstFault targets prog.Stopped = ⊥
IsFirstFault targets prog.Torn = ⊥
IsFirstFault targets prog.NoMemory = Unit {0}
