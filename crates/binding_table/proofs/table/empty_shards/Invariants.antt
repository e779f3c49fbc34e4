use Rattle.std.proofs.Common.{◌≡◌, vec_len}
use Rattle.binding_table.proofs.table.empty_shards.Given as goal

abbrev pub invariant-loop : goal.invariant-loop
invariant-loop g l = vec_len l.made ≡ l.counter
