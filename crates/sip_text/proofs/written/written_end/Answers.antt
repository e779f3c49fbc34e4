use Rattle.sip_text.proofs.Common.{arith, common_steps}
use Rattle.sip_text.proofs.SpelledLines.{has_marks}
use Rattle.sip_text.proofs.written.written_end.Goals as goal

pub returns-else-text-name-eq58-clause-none : goal.returns-else-text-name-eq58-clause-none
returns-else-text-name-eq58-clause-none c =
    λ written.
    let marks = has_marks c.args.text.now c.args.at c.args.line c.requires written in
    grind (arith, common_steps, marks.colon, marks.space, marks.cr, marks.lf)
