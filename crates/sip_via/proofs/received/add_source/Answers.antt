use Rattle.sip_via.proofs.Common.{◌∙◌, ap, option_copied, sym, subst}
use Rattle.sip_via.proofs.laws.ReadTop.{line_marks, marked-good}
use Rattle.sip_via.proofs.received.add_source.Goals as goal

pub with_via_line-requires : goal.with_via_line-requires
with_via_line-requires g c =
    let m = c.args.message in
    marked-good m _ c.args.source c.is_message.ensures c.fact_source.ensures (line_marks m c.args.source c.args.top.now c.in-Some.line.now c.requires (sym c.line.ensures ∙ ap option_copied c.in-Some.is))
