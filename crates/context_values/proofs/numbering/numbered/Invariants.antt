use Rattle.context_values.proofs.Common.{◌≡◌, take, numbered_from, lists_of}
use Rattle.context_values.proofs.numbering.numbered.Given as goal

abbrev pub invariant-loop-group : goal.invariant-loop-group
invariant-loop-group g l = l.pairs.items ≡ numbered_from 0 (take l.group (lists_of l.places-items))
