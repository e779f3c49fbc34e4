use Rattle.call_model.proofs.Closes.{begun_knows, stays_or_comes, steps_know}
use Rattle.call_model.proofs.law.calls_know_what_closed_them.Goals as goal

pub returns-clause-begun : goal.returns-clause-begun
returns-clause-begun c opened rules targets destinations = begun_knows opened rules targets destinations

pub returns-clause-kept : goal.returns-clause-kept
returns-clause-kept c turn call new sound knows step = steps_know c.rows_keep_their_numbers.ensures.by_event turn call new sound knows step

pub returns-clause-by : goal.returns-clause-by
returns-clause-by c turn call new sound knows step = stays_or_comes c.rows_keep_their_numbers.ensures.by_event turn call new sound knows step
