use Rattle.proxy_routing.proofs.Common.{◌≡◌, take, targets_of}
use Rattle.proxy_routing.proofs.targets.targets_of.Given as goal

abbrev pub invariant-loop-candidate : goal.invariant-loop-candidate
invariant-loop-candidate g l = l.targets.items ≡ targets_of (take l.candidate-index l.candidates)
