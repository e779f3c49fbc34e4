use Rattle.sip_text.proofs.Ends.{cut_end, cut_front, cut_size}
use Rattle.sip_text.proofs.start.request_of.Goals as goal

pub after_uri-requires-clause-front : goal.after_uri-requires-clause-front
after_uri-requires-clause-front g c = cut_front c.args.line.now c.cut_at_space.result.0.now _ c.cut_at_space.ensures.value

pub after_uri-requires-clause-size : goal.after_uri-requires-clause-size
after_uri-requires-clause-size g c = cut_size c.args.line.now c.cut_at_space.result.0.now _ c.cut_at_space.ensures.value

pub after_uri-requires-clause-end : goal.after_uri-requires-clause-end
after_uri-requires-clause-end g c = cut_end c.args.line.now c.cut_at_space.result.0.now c.in-Some.rest.now (rw c.in-Some.is at c.cut_at_space.ensures.value)
