use Rattle.sip_lex.proofs.Common.{is_space}
use Rattle.sip_lex.proofs.Places.{place_is}
use Rattle.sip_lex.proofs.cut.place_of_space.Goals as goal

pub returns-clause-value : goal.returns-clause-value
returns-clause-value c = place_is is_space c.args.text.now c.memchr2.result c.memchr2.ensures
