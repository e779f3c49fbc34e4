use Rattle.sip_text.proofs.Common.{views, view_line, sym, ◌∙◌}
use Rattle.sip_text.proofs.Steps.{named_here, named_later}
use Rattle.sip_text.proofs.name.split_header.Goals as goal

pub returns-then-is_named-clause-found : goal.returns-then-is_named-clause-found
returns-then-is_named-clause-found c =
    named_here c.args.name.now (views c.loop-header.rest) (views c.in-Some.after) (view_line c.in-Some.header) _ c.in-Some.ensures.some (sym c.is_named.ensures ∙ c.if-is_named.true) c.loop-header.invariant

pub loop-header-preserved : goal.loop-header-preserved
loop-header-preserved c =
    named_later c.args.name.now (views c.loop-header.rest) (views c.in-Some.after) (view_line c.in-Some.header) _ c.in-Some.ensures.some (sym c.is_named.ensures ∙ c.if-is_named.false) c.loop-header.invariant
