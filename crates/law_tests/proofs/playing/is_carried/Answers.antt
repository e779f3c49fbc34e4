-- What carries a call is one of the calls that a run is made of.
use Rattle.law_tests.proofs.Played.{carried_played, cut_played}
use Rattle.law_tests.proofs.playing.is_carried.Goals as goal

pub returns-in-Ok-clause-played : goal.returns-in-Ok-clause-played
returns-in-Ok-clause-played g c =
    carried_played g.P.Port.sends g.P.Port.count c.args.now c.args.call.now c.args.port.now c.carry.new.call c.carry.new.port _ _ _ c.in-Ok.ensures.done

pub returns-in-Err-clause-played : goal.returns-in-Err-clause-played
returns-in-Err-clause-played g c =
    cut_played g.P.Port.sends g.P.Port.count c.args.now c.args.call.now c.args.port.now c.carry.new.call c.carry.new.port c.in-Err.ensures.cut
