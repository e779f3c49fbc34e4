use Rattle.sip_lex.proofs.Common.{arith}
use Rattle.sip_lex.proofs.Numbers.{stops}
use Rattle.sip_lex.proofs.number.number_of.Goals as goal

pub returns-in_default : goal.returns-in_default
returns-in_default c = grind (arith, stops)
