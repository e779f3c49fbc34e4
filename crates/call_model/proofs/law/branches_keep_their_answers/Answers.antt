use Rattle.call_model.proofs.Behind.{begun_keeps, firsts_stay_or_come, steps_keep_answers}
use Rattle.call_model.proofs.law.branches_keep_their_answers.Goals as goal

pub returns-clause-begun : goal.returns-clause-begun
returns-clause-begun c opened rules targets destinations n stored has received first = begun_keeps c.stored_answers_came.ensures.always opened rules targets destinations n stored has received first

pub returns-clause-kept : goal.returns-clause-kept
returns-clause-kept c turn call new sound kept step =
    steps_keep_answers c.stored_answers_came.ensures.by_event c.branches_go_on.ensures.by_event c.rows_keep_their_numbers.ensures.by_event turn call new sound kept step

pub returns-clause-firsts : goal.returns-clause-firsts
returns-clause-firsts c turn call new sound step n stored has came first =
    firsts_stay_or_come c.stored_answers_came.ensures.by_event c.branches_go_on.ensures.by_event c.rows_keep_their_numbers.ensures.by_event turn call new sound step n stored has came first
