use Rattle.context_values.proofs.Common.{◌≡◌, take, filter_map, target_extras}
use Rattle.context_values.proofs.target_rows.target_extras.Given as goal

abbrev pub invariant-loop-group : goal.invariant-loop-group
invariant-loop-group g l = l.extras.items ≡ filter_map (target_extras l.targets) (take l.group-index l.order)
