-- When a call is over.
use Rattle.fork_call.proofs.Common.{◌≡◌, ℕ, true, false, Option, Some, None, is_finished, Call, rows_of, IsLeastDue, IsOver}
use Rattle.std.specs.Prelude.{is_some}
use Rattle.call_model.specs.Server as server
use Rattle.fork_call.specs.inner.Ending.{AreOver}

-- ---- branches

pub is_over_by : (call : Call) (due : Option ℕ) → IsLeastDue call due → is_some due ≡ false → is_finished (rows_of call) ≡ true → server.is_over call.server.machine → AreOver call → IsOver call
is_over_by call None least none finished server branches = record { finished = finished; server = server; branches = branches; idle = least }
is_over_by call (Some at) least none finished server branches = absurd cc
