use Rattle.call_model.proofs.StepsBuilt.{begun_built, steps_keep}
use Rattle.call_model.proofs.law.branches_keep_what_they_send.Goals as goal

pub returns-clause-begun : goal.returns-clause-begun
returns-clause-begun c opened log destinations = begun_built opened log destinations

pub returns-clause-kept : goal.returns-clause-kept
returns-clause-kept c turn call new built step = steps_keep turn call new built step
