use Rattle.call_model.proofs.Fired.{firings}
use Rattle.call_model.proofs.Parts.{steps_keep_parts}
use Rattle.call_model.proofs.law.parts_go_on.Goals as goal

pub returns-clause-kept : goal.returns-clause-kept
returns-clause-kept c turn call new step = steps_keep_parts turn call new step

pub returns-clause-fired : goal.returns-clause-fired
returns-clause-fired c turn call new n sound step fires = firings turn call new n sound step fires
