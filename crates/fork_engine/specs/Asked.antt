-- What the program is asked for, those commands among it that start threads.
use Rattle.std.specs.Prelude.{◌≡◌, ◌⊎◌, ◌+◌, ℕ, List, [], ◌∷◌, bytes_eq, codes, Option, Some, if◌then◌else◌}
use Rattle.std.specs.Prelude.{take, IfSome}
use Rattle.std.specs.Option.{option_map}
use Rattle.std.specs.Io.KnownBytes as known
use Rattle.fork_program.specs.declared.fault.ProgFault.{ProgFault}
use Rattle.fork_program.specs.declared.fault.ProgFault.TheVariants as prog
use Rattle.fork_program.specs.declared.fault.Fault.{Fault}
use Rattle.fork_program.specs.declared.fault.Fault.TheVariants as fault
use Rattle.fork_program.specs.Faults.{most_text}
use Rattle.fork_program.specs.Program.{command_of, Appends, IsCommandFault}
use Rattle.fork_engine.specs.declared.command.ProgramCommand.{ProgramCommand}
use Rattle.fork_engine.specs.declared.command.ProgramCommand.TheVariants.{Drive, Alone}
use Rattle.fork_engine.specs.TextFaults.{AppendsRun, IsDriveFault}
use Rattle.fork_engine.specs.Headline.{AppendsOneFinal, AppendsNoFinal}

-- `drive` has workers run; all else is as without workers
abbrev pub asked_for : List (List ℕ) → Option ProgramCommand
asked_for [] = option_map Alone (command_of [])
asked_for (name ∷ []) = option_map Alone (command_of (name ∷ []))
asked_for (name ∷ word ∷ []) =
    if bytes_eq word (codes "drive") then Some Drive else option_map Alone (command_of (name ∷ word ∷ []))
asked_for (name ∷ word ∷ other ∷ words) = option_map Alone (command_of (name ∷ word ∷ other ∷ words))

-- what is appended of a text, and the status that goes with it
abbrev pub AppendsAsked : ProgramCommand → List ℕ → List ℕ → List ℕ → ℕ → Type 0
AppendsAsked Drive text old new status =
    (status ≡ 0) × AppendsRun text old new × AppendsOneFinal text old new × AppendsNoFinal text old new
AppendsAsked (Alone command) text old new status = Appends command text old new status

-- why what is asked for is refused of a text
abbrev pub IsAskedFault : ProgramCommand → List ℕ → ProgFault → Type 0
IsAskedFault Drive text refused = IsDriveFault text refused
IsAskedFault (Alone command) text refused = IsCommandFault command text refused

-- a text is all that the input still has, or one byte more than is read of a text
abbrev pub IsWhole : Option (List ℕ) → List ℕ → Type 0
IsWhole input text = IfSome input (λ bytes. text ≡ take (most_text + 1) bytes)

-- what is printed of the input's text is behind what the output had
abbrev pub Writes : ProgramCommand → Option (List ℕ) → Option (List ℕ) → Option (List ℕ) → ℕ → Type 0
Writes asked input old new status =
    (text : List ℕ) × (printed : List ℕ) × IsWhole input text × AppendsAsked asked text [] printed status × known.Appends old new printed

-- why the input's text has no answer, or its answer is not written
abbrev pub IsAnswerFault : ProgramCommand → Option (List ℕ) → Fault → Type 0
IsAnswerFault asked input fault.Usage = ⊥
IsAnswerFault asked input fault.Read = Unit {0}
IsAnswerFault asked input fault.Write =
    (text : List ℕ) × (printed : List ℕ) × (status : ℕ) × IsWhole input text × AppendsAsked asked text [] printed status
IsAnswerFault asked input (fault.Text refused) =
    (refused ≡ prog.NoMemory) ⊎ ((text : List ℕ) × IsWhole input text × IsAskedFault asked text refused)
