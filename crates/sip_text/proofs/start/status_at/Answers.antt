use Rattle.sip_text.proofs.Common.{◌∙◌, arith, common_steps}
use Rattle.sip_text.proofs.Ends.{take_whole}
use Rattle.sip_lex.proofs.Parts.{end_dropped}
use Rattle.sip_text.proofs.start.status_at.Goals as goal

pub place_at_end-reason-requires-clause-end : goal.place_at_end-reason-requires-clause-end
place_at_end-reason-requires-clause-end g c = end_dropped c.args.line.now c.args.rest.now 4 c.requires

pub returns-clause-value : goal.returns-clause-value
returns-clause-value g c = rw (c.place_at_end-reason.ensures.part ∙ take_whole _) (grind (arith, common_steps))
