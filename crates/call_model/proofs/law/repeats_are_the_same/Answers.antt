use Rattle.call_model.proofs.Repeated.{last_is_kept, repeats_same}
use Rattle.call_model.proofs.law.repeats_are_the_same.Goals as goal

pub returns-clause-branches : goal.returns-clause-branches
returns-clause-branches c call new turns first again built run sent also repeated why =
    repeats_same call new turns first again built run sent also repeated why

pub returns-clause-caller : goal.returns-clause-caller
returns-clause-caller c turn call new step = last_is_kept turn call new step
