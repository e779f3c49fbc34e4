-- By the law of calls that are played to their end.
use Rattle.law_tests.proofs.concluding.ends_right.Goals as goal

pub returns-then-lost : goal.returns-then-lost
returns-then-lost g c = λ is.
    c.played_calls_end_right.ensures _ 3 _ _ c.in-Some.call c.is_lost.new.call c.in-Some.ensures c.is_lost.ensures.played (c.is_lost.ensures.ended is)

pub returns : goal.returns
returns g c = λ is.
    c.played_calls_end_right.ensures _ 3 _ _ c.in-Some.call c.is_answered.new.call c.in-Some.ensures c.is_answered.ensures.played (c.is_answered.ensures.ended is)
