use Rattle.sip_lex.proofs.Common.{◌∙◌, is_byte3}
use Rattle.sip_lex.proofs.Places.{place_or}
use Rattle.sip_lex.proofs.sheltered.searched_len.Goals as goal

pub returns-clause-value : goal.returns-clause-value
returns-clause-value c = c.unwrap_or.ensures ∙ place_or (is_byte3 c.args.mark 34 60) c.args.text.now c.memchr3.result c.memchr3.ensures
