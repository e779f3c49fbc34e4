-- A call takes a message, or stays as it is.
use Rattle.law_tests.proofs.Played.{taken_played}
use Rattle.law_tests.proofs.playing.take.Goals as goal

pub returns : goal.returns
returns c = taken_played c.args.now c.args.call.now c.take-taken.new.self c.args.message c.args.from c.take-taken.result c.is_message.ensures c.take-taken.ensures.step c.take-taken.ensures.err
