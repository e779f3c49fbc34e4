use Rattle.std.proofs.Common.{◌≡◌, ◌-◌}
use Rattle.bindings.specs.Bindings.{at_most, fewer}
use Rattle.bindings.specs.Seen.{id_of}
use Rattle.bindings.proofs.changes.let_go.Given as goal

abbrev pub invariant-loop : goal.invariant-loop
invariant-loop g l = fewer (id_of l.request) (l.end - l.counter) l.bindings.items ≡ at_most (id_of l.request) l.fn.bindings.items
