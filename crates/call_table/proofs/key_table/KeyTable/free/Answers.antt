-- The prover finds these answers by itself: they stand here so that it need not search twice where an edit strikes the function.
use Rattle.std.proofs.Common.{rules}
use Rattle.call_table.proofs.key_table.KeyTable.free.Goals as goal

pub returns-clause-number : goal.returns-clause-number
returns-clause-number c = search rules
