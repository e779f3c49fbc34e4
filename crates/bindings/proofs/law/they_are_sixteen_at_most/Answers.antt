use Rattle.bindings.proofs.Sixteen.{few_after}
use Rattle.bindings.proofs.law.they_are_sixteen_at_most.Goals as goal

pub returns : goal.returns
returns c = few_after
