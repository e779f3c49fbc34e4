use Rattle.bindings.proofs.Histories.{there_stand}
use Rattle.bindings.proofs.law.those_that_stand_are_there.Goals as goal

pub returns : goal.returns
returns c = there_stand
