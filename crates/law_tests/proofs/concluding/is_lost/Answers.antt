-- One call after another.
use Rattle.law_tests.proofs.Played.{played_on}
use Rattle.law_tests.proofs.concluding.is_lost.Goals as goal

pub returns-clause-played : goal.returns-clause-played
returns-clause-played g c =
    let ended = played_on c.pump_to-2.new.call c.pump_to-3.new.call c.is_ended.new.call c.pump_to-3.ensures c.is_ended.ensures.played in
    let second = played_on c.pump_to.new.call c.pump_to-2.new.call c.is_ended.new.call c.pump_to-2.ensures ended in
    played_on c.args.call.now c.pump_to.new.call c.is_ended.new.call c.pump_to.ensures second
