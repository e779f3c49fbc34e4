-- What a check prints of a text, and the exit status that goes with it: `yes` and 0, or the first fault and 4.
use Rattle.std.specs.Prelude.{◌≡◌, ◌≤◌, ◌<◌, ℕ, List, ◌++◌, length, codes, Result, Ok, Err}
use Rattle.std.specs.Fmt.{decimal}
use Rattle.fork_listing.specs.declared.refusal.Verdict.{Verdict}
use Rattle.fork_listing.specs.declared.refusal.CheckFault.{CheckFault}
use Rattle.fork_listing.specs.declared.refusal.CheckFault.TheVariants.{Line, Tree, Order, Absent, FinalLine, NoMemory}
use Rattle.fork_listing.specs.Text.{read_listing}
use Rattle.fork_listing.specs.Checking.{IsChecked}
use Rattle.fork_program.specs.declared.fault.ProgFault.{ProgFault}
use Rattle.fork_program.specs.declared.fault.ProgFault.TheVariants as prog
use Rattle.fork_program.specs.Faults.{most_text}
use Rattle.fork_rank.specs.RuleLines.{ended}

-- lines count from 1, targets from 0; want of memory is no answer
abbrev pub IsAnswer : Result Verdict CheckFault → ℕ → List ℕ → Type 0
IsAnswer (Ok verdict) status line = (status ≡ 0) × (line ≡ codes "yes")
IsAnswer (Err (Line number)) status line = (status ≡ 4) × (line ≡ codes "no K1 " ++ decimal number)
IsAnswer (Err (Tree number)) status line = (status ≡ 4) × (line ≡ codes "no K2 " ++ decimal number)
IsAnswer (Err (Order number)) status line = (status ≡ 4) × (line ≡ codes "no K3 " ++ decimal number)
IsAnswer (Err (Absent n)) status line = (status ≡ 4) × (line ≡ codes "no K4 " ++ decimal n)
IsAnswer (Err FinalLine) status line = (status ≡ 4) × (line ≡ codes "no K5")
IsAnswer (Err NoMemory) status line = ⊥

-- the line of what a check found was appended
pub record AppendsLine (found : Result Verdict CheckFault) (old new : List ℕ) (status : ℕ) : Type 0 where
  pub line : List ℕ
  pub answer : IsAnswer found status line
  pub spelled : new ≡ old ++ ended line

-- the text is not too long, and the line of what its check finds was appended
pub record AppendsAnswer (text old new : List ℕ) (status : ℕ) : Type 0 where
  pub short : length text ≤ most_text
  pub found : Result Verdict CheckFault
  pub right : IsChecked (read_listing text) found
  pub printed : AppendsLine found old new status

-- a text has no other fault: one that is no listing is answered
abbrev pub IsCheckRefusal : List ℕ → ProgFault → Type 0
IsCheckRefusal text prog.TooLong = most_text < length text
IsCheckRefusal text prog.NoMemory = Unit {0}
IsCheckRefusal text _ = ⊥
