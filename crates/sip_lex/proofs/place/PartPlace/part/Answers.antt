use Rattle.sip_lex.proofs.Common.{arith}
use Rattle.sip_lex.proofs.Parts.{part_of_part}
use Rattle.sip_lex.proofs.place.PartPlace.part.Goals as goal

pub returns-clause-part : goal.returns-clause-part
returns-clause-part c = λ text. grind (arith, part_of_part)
