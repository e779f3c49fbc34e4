use Rattle.fork_model.proofs.laws.StepLemmas.{rows_keep_numbers, rows_always_keep_numbers}
use Rattle.fork_model.proofs.steps.rows_keep_their_numbers.Goals as goal

pub returns-clause-by_event : goal.returns-clause-by_event
returns-clause-by_event c = rows_keep_numbers

pub returns-clause-always : goal.returns-clause-always
returns-clause-always c = rows_always_keep_numbers
