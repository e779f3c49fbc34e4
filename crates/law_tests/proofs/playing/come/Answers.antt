-- One call after another.
use Rattle.law_tests.proofs.Played.{played_on}
use Rattle.law_tests.proofs.playing.come.Goals as goal

pub returns : goal.returns
returns g c = played_on c.args.call.now c.take.new.call c.is_carried.new.call c.take.ensures c.is_carried.ensures.played
