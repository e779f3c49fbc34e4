-- What a call that may fail gives.
use Rattle.std.proofs.Common.{IfOk, Ok, Err}
use Rattle.std.specs.Prelude.{Result}

-- what holds at one value holds at some
pub at_some : {X E Y : Type 0} (result : Result X E) (P : Y → X → Type 0) (y : Y) → IfOk result (P y) → IfOk result (λ x. (z : Y) × P z x)
at_some (Ok x) P y held = (y, held)
at_some (Err e) P y held = tt
