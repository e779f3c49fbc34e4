-- The call has ended where its context says so, and nothing is due.
use Rattle.law_tests.proofs.Played.{has_ended}
use Rattle.law_tests.proofs.playing.is_ended.Goals as goal

pub returns-clause-ended : goal.returns-clause-ended
returns-clause-ended g c = λ is.
    has_ended c.is_carried-idle.new.call c.args.now c.book.result.now c.context-context.result.now c.finished.result c.succeeded.result
    (c.is_carried-idle.ensures.idle (c.is_end.ensures.idle is)) c.book.ensures c.context-context.ensures.stands c.finished.ensures c.succeeded.ensures
    (c.is_end.ensures.finished is) (c.is_end.ensures.failed is)
