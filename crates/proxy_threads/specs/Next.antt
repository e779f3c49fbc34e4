-- What is to be done next with a call that was carried.
use Rattle.std.specs.Prelude.{◌≡◌, ℕ, true, false, Option, Some, None}
use Rattle.fork_model.specs.Choice.{Choice, IsChoice, status_sent}
use Rattle.fork_model.specs.Core.{Core}
use Rattle.fork_model.specs.Log.{core_of}
use Rattle.fork_model.specs.Table.{is_finished, is_succeeded}
use Rattle.call_model.specs.Call.{Call}
use Rattle.call_model.specs.Due.{IsLeastDue, IsOver}
use Rattle.proxy_threads.specs.declared.carrying.NextStep.{NextStep}
use Rattle.proxy_threads.specs.declared.carrying.NextStep.TheVariants as next

-- every branch has ended, and none was answered with a 2xx
pub record HasFailed (core : Core) : Type 0 where
  pub finished : is_finished core.table.rows ≡ true
  pub refused : is_succeeded core.table.rows ≡ false

-- it failed with this status: that of the best of its answers goes up (RFC 3261 section 16.7 step 6)
pub record FailsWith (core : Core) (status : ℕ) : Type 0 where
  pub failed : HasFailed core
  pub choice : Choice
  pub is_choice : IsChoice core.table.rules core.table.rows choice
  pub status_is : status ≡ status_sent core.table.rows choice

abbrev pub EndsBy : Core → Option ℕ → Type 0
EndsBy core (Some status) = FailsWith core status
EndsBy core None = HasFailed core → ⊥

-- it waits for its least moment; or it is over, with the status with which it failed, if it did; or it is not over, and nothing is due
abbrev pub IsNext : Call → NextStep → Type 0
IsNext call (next.At due) = IsLeastDue call (Some due)
IsNext call (next.Over failure) = IsOver call × EndsBy (core_of call.log) failure
IsNext call next.Nothing = IsLeastDue call None × (IsOver call → ⊥)
IsNext call next.Refused = ⊥
