-- One call after another.
use Rattle.law_tests.proofs.Played.{played_on}
use Rattle.law_tests.proofs.playing.pump_to.Goals as goal

pub returns : goal.returns
returns g c = played_on c.args.call.now c.pump.new.call c.fail.new.call c.pump.ensures c.fail.ensures
