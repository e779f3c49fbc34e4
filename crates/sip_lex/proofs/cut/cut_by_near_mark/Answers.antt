use Rattle.sip_lex.proofs.Common.{sym, ap, ◌∙◌, is, common_steps, arith}
use Rattle.sip_lex.proofs.laws.Cuts.{cut-position, cut_at}
use Rattle.sip_lex.proofs.cut.cut_by_near_mark.Goals as goal

pub returns-in-None-clause-value : goal.returns-in-None-clause-value
returns-in-None-clause-value c = sym (cut-position (is c.args.mark) c.args.text.now ∙ ap (λ i. cut_at i c.args.text.now) (sym c.in-None.ensures.value))

pub returns-in-Some-clause-value : goal.returns-in-Some-clause-value
returns-in-Some-clause-value c = grind (arith, common_steps, cut-position)
