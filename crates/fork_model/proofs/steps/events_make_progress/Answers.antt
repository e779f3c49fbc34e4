use Rattle.fork_model.proofs.laws.StepLemmas.{event_progress, no_progress_undone, settling_progress, progress_bounded}
use Rattle.fork_model.proofs.steps.events_make_progress.Goals as goal

pub returns-clause-by_event : goal.returns-clause-by_event
returns-clause-by_event c = event_progress

pub returns-clause-never_undone : goal.returns-clause-never_undone
returns-clause-never_undone c = no_progress_undone

pub returns-clause-by_settling : goal.returns-clause-by_settling
returns-clause-by_settling c = settling_progress

pub returns-clause-bounded : goal.returns-clause-bounded
returns-clause-bounded c = progress_bounded
