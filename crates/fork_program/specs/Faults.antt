-- Why a text is not replayed, in the order in which the causes are looked for.
use Rattle.std.specs.Prelude.{◌≡◌, ◌<◌, ◌≤◌, ℕ, List, [], ◌++◌, length}
use Rattle.fork_model.specs.Table.{most_targets}
use Rattle.fork_model.specs.History.{Target}
use Rattle.fork_context.specs.declared.context.NewFault.{NewFault}
use Rattle.fork_context.specs.declared.context.NewFault.TheVariants as setup
use Rattle.fork_context.specs.Refusals.{HasTwice, IsTooMany}
use Rattle.fork_program.specs.declared.fault.ProgFault.{ProgFault}
use Rattle.fork_program.specs.declared.fault.ProgFault.TheVariants as prog
use Rattle.fork_program.specs.Script.{Script}
use Rattle.fork_program.specs.Spelling.{Spells}
use Rattle.fork_program.specs.Malformed.{IsMalformedAt}
use Rattle.fork_program.specs.Replay.{IsReplay}

-- no more bytes than these are read of a script
abbrev pub most_text : ℕ
most_text = 1048576

-- why these targets are no fork
abbrev pub IsSetupFault : List Target → NewFault → Type 0
IsSetupFault targets setup.NoTargets = targets ≡ []
IsSetupFault targets setup.TooMany = IsTooMany targets
IsSetupFault targets setup.Twice = (length targets ≤ most_targets) × HasTwice targets
IsSetupFault targets setup.NoMemory = ⊥

-- a replay has no workers, so it is neither stopped nor torn
abbrev pub IsFault : List ℕ → ProgFault → Type 0
IsFault text prog.TooLong = most_text < length text
IsFault text (prog.Line number) = (length text ≤ most_text) × IsMalformedAt text number
IsFault text (prog.New fault) =
    (length text ≤ most_text) × (script : Script) × Spells text script × IsSetupFault script.targets fault
IsFault text prog.Stopped = ⊥
IsFault text prog.Torn = ⊥
IsFault text prog.NoMemory = Unit {0}

-- these targets are a fork, and what was printed is the script's replay
pub record IsForkReplay (script : Script) (printed : List ℕ) : Type 0 where
  pub set_up : (fault : NewFault) → IsSetupFault script.targets fault → ⊥
  pub replayed : IsReplay script printed

-- the text spells a script whose targets are a fork, and its replay was appended
pub record AppendsReplay (text old new : List ℕ) : Type 0 where
  pub short : length text ≤ most_text
  pub script : Script
  pub read : Spells text script
  pub printed : List ℕ
  pub right : IsForkReplay script printed
  pub spelled : new ≡ old ++ printed
