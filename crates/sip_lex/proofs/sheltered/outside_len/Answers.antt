use Rattle.sip_lex.proofs.Common.{arith, common_steps}
use Rattle.sip_lex.proofs.Bare.{bare_then}
use Rattle.sip_lex.proofs.sheltered.outside_len.Goals as goal

pub returns-clause-value : goal.returns-clause-value
returns-clause-value c = grind (arith, common_steps, bare_then)
