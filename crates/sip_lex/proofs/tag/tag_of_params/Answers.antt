use Rattle.std.proofs.Common.{◌∙◌, sym}
use Rattle.std.specs.Option.{option_copied}
use Rattle.sip_lex.proofs.Tags.{tag_here, tag_later}
use Rattle.sip_lex.proofs.tag.tag_of_params.Goals as goal

pub returns-then-is_tag_name : goal.returns-then-is_tag_name
returns-then-is_tag_name c =
    let h = c.loop-rest.invariant in
    c.value_of_cut.ensures ∙ tag_here c.in-Some.text.now c.cut_outside.result.0.now c.cut_near.result.0.now (option_copied c.cut_outside.result.1) (option_copied c.cut_near.result.1) _ c.cut_outside.ensures.value c.cut_near.ensures.value (sym c.is_tag_name.ensures ∙ c.if-is_tag_name.true) (rw c.in-Some.is at h)

pub loop-rest-preserved : goal.loop-rest-preserved
loop-rest-preserved c =
    let h = c.loop-rest.invariant in
    tag_later c.in-Some.text.now c.cut_outside.result.0.now c.cut_near.result.0.now (option_copied c.cut_outside.result.1) (option_copied c.cut_near.result.1) _ c.cut_outside.ensures.value c.cut_near.ensures.value (sym c.is_tag_name.ensures ∙ c.if-is_tag_name.false) (rw c.in-Some.is at h)
