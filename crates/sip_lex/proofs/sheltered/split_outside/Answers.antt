use Rattle.sip_lex.proofs.Common.{common_steps, arith}
use Rattle.sip_lex.proofs.laws.Shelters.{split_is}
use Rattle.sip_lex.proofs.sheltered.split_outside.Goals as goal

pub returns-in-empty-clause-value : goal.returns-in-empty-clause-value
returns-in-empty-clause-value c = grind (arith, split_is)

pub returns-in-len1-up-clause-value : goal.returns-in-len1-up-clause-value
returns-in-len1-up-clause-value c = grind (arith, common_steps, split_is)
