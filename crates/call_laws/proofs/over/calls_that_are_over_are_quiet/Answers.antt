use Rattle.call_laws.proofs.Steps.{nothing_due, over_quiet, stay_quiet}
use Rattle.call_laws.proofs.over.calls_that_are_over_are_quiet.Goals as goal

pub returns-clause-over : goal.returns-clause-over
returns-clause-over c = over_quiet

pub returns-clause-due : goal.returns-clause-due
returns-clause-due c = nothing_due

pub returns-clause-stay : goal.returns-clause-stay
returns-clause-stay c = stay_quiet c.finished_stays.ensures.rows_stay
