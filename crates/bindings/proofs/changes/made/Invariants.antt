use Rattle.std.proofs.Common.{◌≡◌, map, take}
use Rattle.bindings.specs.Bindings.{binding_of}
use Rattle.bindings.specs.Seen.{asked_of, register_of}
use Rattle.bindings.proofs.changes.made.Given as goal

abbrev pub invariant-loop-asked : goal.invariant-loop-asked
invariant-loop-asked g l = l.made.items ≡ map (λ asked. binding_of (register_of l.request) (asked_of asked)) (take l.asked-index l.asked-items)
