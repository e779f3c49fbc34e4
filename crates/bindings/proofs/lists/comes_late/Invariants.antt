use Rattle.std.proofs.Common.{◌≡◌, length}
use Rattle.bindings.specs.Bindings.{there}
use Rattle.bindings.specs.Registering.{comes_late}
use Rattle.bindings.specs.Seen.{asked_of, id_of}
use Rattle.bindings.proofs.lists.comes_late.Given as goal

abbrev pub invariant-loop-binding : goal.invariant-loop-binding
invariant-loop-binding g l = comes_late (id_of l.request) (there l.request.at l.rest) (asked_of l.asked) ≡ comes_late (id_of l.request) (there l.request.at l.bindings) (asked_of l.asked)

abbrev pub decreases-loop-binding : goal.decreases-loop-binding
decreases-loop-binding g l = length l.rest
