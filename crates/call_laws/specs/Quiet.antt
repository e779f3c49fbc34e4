-- A call that is over, but for the 200s that it owes to CANCELs (RFC 3261 sections 9.2 and 17).
use Rattle.std.specs.Prelude.{◌≡◌, ℕ, [], None}
use Rattle.std.specs.List.{AllByRecursion}
use Rattle.call_model.specs.declared.cause.Cause.TheVariants as cause
use Rattle.call_model.specs.Call.{Call, rows_of}
use Rattle.call_model.specs.Due.{IsLeastDue, IsOver}
use Rattle.call_model.specs.Pump.{Pumped, Send, Did, Idle}
use Rattle.call_model.specs.Server.{Owed, Trying, Passed, Final, Again, CancelOk}
use Rattle.call_model.specs.Step as step
use Rattle.call_model.specs.Step.{Input, Output, Step, Turn, Run}
use Rattle.call_model.specs.Take.{MatchedTransaction, ServerCancel, Taken, Absorbed, Posted}

-- the call with all that it owes to its caller paid
abbrev pub paid : Call → Call
paid call = record call { server = record call.server { owed = [] } }

abbrev pub IsCancelOk : Owed → Type 0
IsCancelOk Trying = ⊥
IsCancelOk (Passed m) = ⊥
IsCancelOk (Final choice) = ⊥
IsCancelOk Again = ⊥
IsCancelOk (CancelOk cancel to) = Unit {0}

-- it is over, but that it may owe 200s to CANCELs
pub record IsQuiet (call : Call) : Type 0 where
  pub over : IsOver (paid call)
  pub owed : AllByRecursion IsCancelOk call.server.owed

-- ---- what it answers

-- what comes of a message: a CANCEL may be posted, nothing else is
abbrev pub IsQuietly : MatchedTransaction → Taken → Type 0
IsQuietly ServerCancel Absorbed = Unit {0}
IsQuietly ServerCancel (Posted at) = Unit {0}
IsQuietly _ Absorbed = Unit {0}
IsQuietly _ _ = ⊥

-- it sends 200s to CANCELs alone
abbrev pub SendsCancelOk : Pumped → Type 0
SendsCancelOk (Send d) = d.cause ≡ cause.CancelOk
SendsCancelOk Did = ⊥
SendsCancelOk Idle = Unit {0}

abbrev pub AnswersQuietly : Input → Output → Type 0
AnswersQuietly (step.Take to m source) (step.Took taken) = IsQuietly to taken
AnswersQuietly step.Pump (step.Did pumped) = SendsCancelOk pumped
AnswersQuietly (step.Failed cause) step.Told = Unit {0}
AnswersQuietly input output = ⊥

-- whether a CANCEL is given
abbrev pub IsCancel : Input → Type 0
IsCancel (step.Take ServerCancel m source) = Unit {0}
IsCancel input = ⊥

-- after the step it is as it was, but for what it owes, and for a CANCEL that stands in its log
pub record IsLeft (call new : Call) (input : Input) : Type 0 where
  pub quiet : IsQuiet new
  pub opened : new.opened ≡ call.opened
  pub destinations : new.destinations ≡ call.destinations
  pub branches : new.branches ≡ call.branches
  pub rows : rows_of new ≡ rows_of call
  pub machine : new.server.machine ≡ call.server.machine
  pub log : (IsCancel input → ⊥) → new.log ≡ call.log

-- ---- laws

-- a call that is over is quiet, and owes nothing
pub record IsQuietWithoutOwed (call : Call) : Type 0 where
  pub quiet : IsQuiet call
  pub owed : call.server.owed ≡ []

abbrev pub OverCallsAreQuiet : Type 0
OverCallsAreQuiet = (call : Call) → IsOver call → IsQuietWithoutOwed call

-- and nothing is due, at any moment
abbrev pub OverCallsHaveNothingDue : Type 0
OverCallsHaveNothingDue = (call : Call) → IsOver call → IsLeastDue call None

-- whatever it is given at any moment, it answers quietly and is left so
abbrev pub QuietCallsStayQuiet : Type 0
QuietCallsStayQuiet =
    (now : ℕ) (call new : Call) (input : Input) (output : Output) → IsQuiet call → Step now call input new output
    → AnswersQuietly input output × IsLeft call new input
