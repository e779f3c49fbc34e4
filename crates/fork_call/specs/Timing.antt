-- A step of a call touches few rows: these alone are timed anew.
use Rattle.std.specs.Prelude.{◌≡◌, ℕ, List, Option}
use Rattle.fork_model.specs.Steps.{IsWithin}
use Rattle.fork_model.specs.Log.{core_of}
use Rattle.call_model.specs.Call.{Call}
use Rattle.call_model.specs.Sound.{IsSound}
use Rattle.call_laws.specs.Right.{SendsRight}
use Rattle.fork_call.specs.Scheduled.{scheduled}

-- ---- what holds of every call

pub record IsTimed (call : Call) (moments : List (Option ℕ)) : Type 0 where
  pub sound : IsSound call
  -- what it keeps to be sent is right, and its final answers stand
  pub right : SendsRight call
  -- each row has its moment
  pub times : moments ≡ scheduled call
  -- what was posted is bounded, for past a limit no event is taken that changes nothing
  pub within : IsWithin (core_of call.log)
