use Rattle.context_values.proofs.Common.{◌≡◌, map, take, AllByRecursion, Target, IsTargetInRange}
use Rattle.context_values.proofs.target_rows.target_qs.Given as goal

abbrev pub invariant-loop-target : goal.invariant-loop-target
invariant-loop-target g l =
    (l.qs.items ≡ map (λ (target : Target). target.q) (take l.target-index l.targets)) × AllByRecursion IsTargetInRange (take l.target-index l.targets)
