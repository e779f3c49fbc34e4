use Rattle.sip_lex.proofs.Common.{is}
use Rattle.sip_lex.proofs.Places.{place_is}
use Rattle.sip_lex.proofs.cut.byte_place.Goals as goal

pub returns-clause-value : goal.returns-clause-value
returns-clause-value c = place_is (is c.args.mark) c.args.text.now c.memchr.result c.memchr.ensures
