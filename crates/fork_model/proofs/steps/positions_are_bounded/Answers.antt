use Rattle.fork_model.proofs.laws.ContactLemmas.{taken_bounded}
use Rattle.fork_model.proofs.laws.StepLemmas.{positions_bounded}
use Rattle.fork_model.proofs.steps.positions_are_bounded.Goals as goal

pub returns-clause-by_event : goal.returns-clause-by_event
returns-clause-by_event c = positions_bounded

pub returns-clause-always : goal.returns-clause-always
returns-clause-always c = taken_bounded
