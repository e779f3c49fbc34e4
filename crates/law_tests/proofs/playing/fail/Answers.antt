-- A call is told of a datagram that was lost, or stays as it is.
use Rattle.law_tests.proofs.Played.{told_played}
use Rattle.law_tests.proofs.playing.fail.Goals as goal

pub returns : goal.returns
returns c = told_played c.args.now c.args.call.now c.failed-told.new.self c.args.cause c.failed-told.result c.failed-told.ensures.step c.failed-told.ensures.err
