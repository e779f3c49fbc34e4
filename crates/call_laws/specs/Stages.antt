-- A run of a call with each call in it, and what it paid of what it owed to its caller (RFC 3261 sections 16.7 and 17.2).
use Rattle.std.specs.Prelude.{nat_lt, Bool, true, false, List, [], ◌∷◌, ◌++◌, drop, length}
use Rattle.call_model.specs.Call.{Call}
use Rattle.call_model.specs.Server.{Owed}
use Rattle.call_model.specs.Step.{Output, Step, Turn}

-- a turn, and the call that it leads to
pub record Stage : Type 0 where
  pub turn : Turn
  pub call : Call

abbrev pub turn_of : Stage → Turn
turn_of stage = stage.turn

-- one after another, each by a step from the call before
abbrev pub Leads : Call → List Stage → Type 0
Leads call [] = Unit {0}
Leads call (stage ∷ stages) = Step stage.turn.now call stage.turn.input stage.call stage.turn.output × Leads stage.call stages

-- where they lead
abbrev pub end_of : Call → List Stage → Call
end_of call [] = call
end_of call (stage ∷ stages) = end_of stage.call stages

-- ---- what is paid

-- what was owed first, and is owed no more after a turn: the turns before it, the call then, and what the turn put out
pub record Payment : Type 0 where
  pub before : List Turn
  pub call : Call
  pub owed : Owed
  pub output : Output

-- where less is owed after a turn, what was owed first was paid
abbrev pub paid_if : Bool → List Turn → Call → List Owed → Output → List Payment
paid_if true before call (owed ∷ rest) output = record { before = before; call = call; owed = owed; output = output } ∷ []
paid_if true before call [] output = []
paid_if false before call owed output = []

abbrev pub paid_at : List Turn → Call → Stage → List Payment
paid_at before call stage =
    paid_if (nat_lt (length stage.call.server.owed) (length call.server.owed)) before call call.server.owed stage.turn.output

-- all that was paid, in order
abbrev pub payments : List Turn → Call → List Stage → List Payment
payments before call [] = []
payments before call (stage ∷ stages) = paid_at before call stage ++ payments (before ++ stage.turn ∷ []) stage.call stages

-- what is owed after a turn besides what was owed before
abbrev pub owed_new : Call → Stage → List Owed
owed_new call stage = drop (length call.server.owed) stage.call.server.owed

-- all that came to be owed, in order
abbrev pub owed_since : Call → List Stage → List Owed
owed_since call [] = []
owed_since call (stage ∷ stages) = owed_new call stage ++ owed_since stage.call stages

abbrev pub owed_of : Payment → Owed
owed_of payment = payment.owed
