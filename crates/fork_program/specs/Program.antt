-- How the program is called, what it prints, and how it ends.
use Rattle.std.specs.Prelude.{◌≡◌, ◌⊎◌, ℕ, List, [], ◌∷◌, bytes_eq, codes, Option, Some, None, if◌then◌else◌}
use Rattle.fork_program.specs.declared.command.TextCommand.{TextCommand}
use Rattle.fork_program.specs.declared.command.TextCommand.TheVariants.{Replay, Check}
use Rattle.fork_program.specs.declared.fault.ProgFault.{ProgFault}
use Rattle.fork_program.specs.declared.fault.ProgFault.TheVariants as prog
use Rattle.fork_program.specs.declared.fault.Fault.{Fault}
use Rattle.fork_program.specs.declared.fault.Fault.TheVariants as fault
use Rattle.fork_program.specs.Faults.{AppendsReplay, IsFault}
use Rattle.fork_program.specs.Headline.{AppendsOneFinal, AppendsNoFinal}
use Rattle.fork_program.specs.RightListing.{AppendsRightListing}
use Rattle.fork_program.specs.Answer.{AppendsAnswer, IsCheckRefusal}

abbrev pub command_named : List ℕ → Option TextCommand
command_named word =
    if bytes_eq word (codes "replay") then Some Replay
    else (if bytes_eq word (codes "check") then Some Check
    else None)

-- the program's own name comes first; nothing behind it asks for a replay
abbrev pub command_of : List (List ℕ) → Option TextCommand
command_of [] = Some Replay
command_of (name ∷ []) = Some Replay
command_of (name ∷ word ∷ []) = command_named word
command_of (name ∷ word ∷ other ∷ words) = None

-- what a command appends of a text, and the status that it ends with
abbrev pub Appends : TextCommand → List ℕ → List ℕ → List ℕ → ℕ → Type 0
Appends Replay text old new status =
    (status ≡ 0)
    × AppendsReplay text old new
    × AppendsOneFinal text old new
    × AppendsNoFinal text old new
    × AppendsRightListing text old new
Appends Check text old new status = AppendsAnswer text old new status

-- why a command refuses a text
abbrev pub IsCommandFault : TextCommand → List ℕ → ProgFault → Type 0
IsCommandFault Replay text refused = IsFault text refused
IsCommandFault Check text refused = IsCheckRefusal text refused

-- the arguments are no command, or a growth was refused
abbrev pub IsUsageFault : Fault → Type 0
IsUsageFault f = (f ≡ fault.Usage) ⊎ (f ≡ fault.Text prog.NoMemory)

-- the input could not be read, or a growth was refused
abbrev pub IsReadFault : Fault → Type 0
IsReadFault f = (f ≡ fault.Read) ⊎ (f ≡ fault.Text prog.NoMemory)
