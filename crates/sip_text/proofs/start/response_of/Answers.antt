use Rattle.sip_text.proofs.Ends.{cut_end}
use Rattle.sip_text.proofs.start.response_of.Goals as goal

pub status_at-requires : goal.status_at-requires
status_at-requires g c = cut_end c.args.line.now c.cut_at_space.result.0.now c.in-Some.rest.now (rw c.in-Some.is at c.cut_at_space.ensures.value)
