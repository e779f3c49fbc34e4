use Rattle.sip_lex.proofs.laws.Lines.{is_found, is_none}
use Rattle.sip_lex.proofs.line.first_line.Goals as goal

pub returns-clause-found : goal.returns-clause-found
returns-clause-found c = is_found c.args.text.now c.line_at.result c.line_at.ensures.value

pub returns-clause-none : goal.returns-clause-none
returns-clause-none c = is_none c.args.text.now c.line_at.result c.line_at.ensures.value
