use Rattle.sip_text.proofs.Common.{◌∙◌, arith, common_steps}
use Rattle.sip_text.proofs.Ends.{cut_front, cut_size}
use Rattle.sip_text.proofs.start.after_uri.Goals as goal

pub place_at_end-uri-requires-clause-len : goal.place_at_end-uri-requires-clause-len
place_at_end-uri-requires-clause-len g c = cut_size c.args.rest.now c.cut_at_space.result.0.now _ c.cut_at_space.ensures.value

pub returns-clause-value : goal.returns-clause-value
returns-clause-value g c =
    rw (c.requires.front, c.place_at_end-uri.ensures.part ∙ cut_front c.args.rest.now c.cut_at_space.result.0.now _ c.cut_at_space.ensures.value) (grind (arith, common_steps))
