-- What pumps a call is one of the calls that a run is made of.
use Rattle.call_model.specs.SeenStep.{pumped}
use Rattle.law_tests.proofs.Played.{not_played, pumped_played}
use Rattle.law_tests.proofs.playing.pump.Goals as goal

pub returns-in-Ok : goal.returns-in-Ok
returns-in-Ok c = pumped_played c.args.now c.args.call.now c.pump.new.self (pumped c.in-Ok.step) c.in-Ok.ensures.step

pub returns-in-Err : goal.returns-in-Err
returns-in-Err c = not_played c.args.call.now c.pump.new.self c.in-Err.ensures.err
