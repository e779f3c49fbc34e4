-- One call after another.
use Rattle.law_tests.proofs.Played.{played_on}
use Rattle.law_tests.proofs.concluding.is_answered.Goals as goal

pub returns-clause-played : goal.returns-clause-played
returns-clause-played g c =
    let ended = played_on c.come.new.call c.come-2.new.call c.is_ended.new.call c.come-2.ensures c.is_ended.ensures.played in
    let come = played_on c.is_carried.new.call c.come.new.call c.is_ended.new.call c.come.ensures ended in
    played_on c.args.call.now c.is_carried.new.call c.is_ended.new.call c.is_carried.ensures.played come
