use Rattle.fork_model.proofs.laws.ContactLemmas.{each_target, targets_bounded}
use Rattle.fork_model.proofs.steps.targets_are_bounded.Goals as goal

pub returns-clause-at_first : goal.returns-clause-at_first
returns-clause-at_first c = each_target

pub returns-clause-by_event : goal.returns-clause-by_event
returns-clause-by_event c = targets_bounded
