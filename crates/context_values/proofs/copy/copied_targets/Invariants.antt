use Rattle.std.proofs.Common.{◌≡◌, take}
use Rattle.context_values.proofs.copy.copied_targets.Given as goal

abbrev pub invariant-loop-target : goal.invariant-loop-target
invariant-loop-target g l = l.copies.items ≡ take l.target-index l.targets
