use Rattle.fork_model.proofs.laws.StepLemmas.{branches_go, branches_always_go}
use Rattle.fork_model.proofs.steps.branches_go_on.Goals as goal

pub returns-clause-by_event : goal.returns-clause-by_event
returns-clause-by_event c = branches_go

pub returns-clause-always : goal.returns-clause-always
returns-clause-always c = branches_always_go
