use Rattle.sip_lex.proofs.laws.Quotes.{is_found, is_none}
use Rattle.sip_lex.proofs.quoted.cut_quoted.Goals as goal

pub returns-clause-found : goal.returns-clause-found
returns-clause-found c = is_found c.args.text.now c.split_quoted.result c.split_quoted.ensures

pub returns-clause-none : goal.returns-clause-none
returns-clause-none c = is_none c.args.text.now c.split_quoted.result c.split_quoted.ensures
