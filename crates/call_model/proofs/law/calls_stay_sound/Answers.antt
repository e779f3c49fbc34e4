use Rattle.call_model.proofs.SoundBegun.{begun_sound}
use Rattle.call_model.proofs.SoundSteps.{steps_sound}
use Rattle.call_model.proofs.law.calls_stay_sound.Goals as goal

pub returns-clause-begun : goal.returns-clause-begun
returns-clause-begun c opened rules targets destinations = begun_sound c.stored_answers_came.ensures.always opened rules targets destinations

pub returns-clause-kept : goal.returns-clause-kept
returns-clause-kept c turn call new sound given step =
    steps_sound c.stored_answers_came.ensures.tested c.rows_keep_their_numbers.ensures.by_event c.finished_stays.ensures.rows_stay c.others_stay_open.ensures.stay c.header_values_are_values.ensures
    turn call new sound given step
