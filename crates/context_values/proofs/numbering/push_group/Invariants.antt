use Rattle.context_values.proofs.Common.{◌≡◌, ◌++◌, take, in_group}
use Rattle.context_values.proofs.numbering.push_group.Given as goal

abbrev pub invariant-loop-place : goal.invariant-loop-place
invariant-loop-place g l = l.pairs.items ≡ l.initial.pairs.items ++ in_group l.group (take l.place-index l.places)
