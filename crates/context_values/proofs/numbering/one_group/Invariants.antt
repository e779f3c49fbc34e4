use Rattle.context_values.proofs.Common.{◌≡◌, in_group, numbers_below}
use Rattle.context_values.proofs.numbering.one_group.Given as goal

abbrev pub invariant-loop-place : goal.invariant-loop-place
invariant-loop-place g l = l.pairs.items ≡ in_group 0 (numbers_below l.place)
