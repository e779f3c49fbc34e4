use Rattle.context_values.proofs.Common.{◌≡◌, take, filter_map, row_extras_at}
use Rattle.context_values.proofs.new_target.extras_at.Given as goal

abbrev pub invariant-loop-pair : goal.invariant-loop-pair
invariant-loop-pair g l = l.extras.items ≡ filter_map (row_extras_at l.fresh) (take l.pair-index l.numbered)
