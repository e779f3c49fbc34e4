use Rattle.fork_model.proofs.SourceLemmas.{answers_came, answers_pass, events_store}
use Rattle.fork_model.proofs.sources.stored_answers_came.Goals as goal

pub returns-clause-by_event : goal.returns-clause-by_event
returns-clause-by_event c = events_store

pub returns-clause-always : goal.returns-clause-always
returns-clause-always c = answers_came

pub returns-clause-tested : goal.returns-clause-tested
returns-clause-tested c = answers_pass
