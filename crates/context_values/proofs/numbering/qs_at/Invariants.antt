use Rattle.context_values.proofs.Common.{◌≡◌, map, take, q_of_pair}
use Rattle.context_values.proofs.numbering.qs_at.Given as goal

abbrev pub invariant-loop-place : goal.invariant-loop-place
invariant-loop-place g l = l.ordered.items ≡ map (q_of_pair l.qs) (take l.place-index l.numbered)
