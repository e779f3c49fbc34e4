-- What holds of a call from its opening on, so that it sends what is right: what it keeps to be sent is what it was made of, and
-- comes from messages that came, and its final answers stand (RFC 3261 sections 9.1, 16.6, 16.7, 17.1.1.3 and 17.2).
use Rattle.std.specs.Prelude.{List, [], ◌∷◌, ◌++◌, map}
use Rattle.fork_model.specs.Choice.{Choice}
use Rattle.fork_model.specs.History.{Target}
use Rattle.fork_model.specs.Log.{opening_log}
use Rattle.fork_model.specs.Table.{Rules}
use Rattle.call_model.specs.Begun.{begun}
use Rattle.call_model.specs.Behind.{KeepsAnswers}
use Rattle.call_model.specs.Call.{Call}
use Rattle.call_model.specs.Datagrams.{IsBuilt}
use Rattle.call_model.specs.OpenedRequest.{OpenedRequest, Destination, kind_of}
use Rattle.call_model.specs.Sound.{IsSound}
use Rattle.call_model.specs.Step.{Turn, Step}
use Rattle.call_laws.specs.Finals.{FinalsStand, OwesResponses, finals_owed}
use Rattle.call_laws.specs.Last.{KeepsLast}
use Rattle.call_laws.specs.Origins.{ComesFrom}
use Rattle.call_laws.specs.Stages.{Payment, owed_of, paid_at}

-- after these turns, by which these final answers were handed to the caller's transaction
pub record StandsAfter (turns : List Turn) (handed : List Choice) (call : Call) : Type 0 where
  -- the part of each branch is as it was made
  pub built : IsBuilt call
  -- the branch with the best stored answer keeps the response that it was
  pub answers : KeepsAnswers call
  -- what is kept to be sent comes from messages that came
  pub origins : ComesFrom turns call
  pub owed : OwesResponses call
  pub finals : FinalsStand turns handed call
  -- what may be sent to the caller again was sent
  pub last : KeepsLast call

-- there are such turns, and such answers
abbrev pub SendsRight : Call → Type 0
SendsRight call = (turns : List Turn) × (handed : List Choice) × StandsAfter turns handed call

-- the final answers among what was paid
abbrev pub finals_paid : List Payment → List Choice
finals_paid payments = finals_owed (map owed_of payments)

-- ---- laws

-- so a call begins to these targets
abbrev pub BegunStands : Type 0
BegunStands =
    (opened : OpenedRequest) (rules : Rules) (targets : List Target) (destinations : List Destination)
    → StandsAfter [] [] (begun opened (opening_log (kind_of opened) rules targets) destinations)

-- and each step of a sound call keeps it
abbrev pub StepsStand : Type 0
StepsStand =
    (turns : List Turn) (handed : List Choice) (turn : Turn) (call new : Call) → IsSound call → StandsAfter turns handed call
    → Step turn.now call turn.input new turn.output
    → StandsAfter (turns ++ turn ∷ []) (handed ++ finals_paid (paid_at turns call (record { turn = turn; call = new }))) new
