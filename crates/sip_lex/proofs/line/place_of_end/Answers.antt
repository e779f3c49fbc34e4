use Rattle.sip_lex.proofs.Places.{place_is}
use Rattle.sip_lex.specs.inner.LineEnds.{is_end}
use Rattle.sip_lex.proofs.line.place_of_end.Goals as goal

pub returns-clause-value : goal.returns-clause-value
returns-clause-value c = place_is is_end c.args.text.now c.memchr2.result c.memchr2.ensures
