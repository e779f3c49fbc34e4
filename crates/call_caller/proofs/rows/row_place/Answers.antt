-- The prover finds these answers by itself: they stand here so that it need not search twice where an edit strikes the function.
use Rattle.std.proofs.Common.{rules}
use Rattle.call_caller.proofs.rows.row_place.Goals as goal

pub returns : goal.returns
returns c = search rules
