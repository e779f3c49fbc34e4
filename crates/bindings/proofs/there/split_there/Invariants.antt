use Rattle.std.proofs.Common.{◌≡◌, length}
use Rattle.bindings.specs.Bindings.{there}
use Rattle.bindings.proofs.there.split_there.Given as goal

abbrev pub invariant-loop-binding : goal.invariant-loop-binding
invariant-loop-binding g l = there l.moment l.rest ≡ there l.moment l.bindings

abbrev pub decreases-loop-binding : goal.decreases-loop-binding
decreases-loop-binding g l = length l.rest
