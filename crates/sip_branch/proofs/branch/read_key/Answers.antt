use Rattle.sip_branch.proofs.Common.{arith, length-set, common_steps}
use Rattle.sip_branch.proofs.laws.HexLaws.{hex_text_length, pair_at}
use Rattle.sip_branch.proofs.branch.read_key.Goals as goal

pub returns-then-text-ne32-clause-none : goal.returns-then-text-ne32-clause-none
returns-then-text-ne32-clause-none c = grind (arith, hex_text_length)

pub returns-in_err-key-clause-none : goal.returns-in_err-key-clause-none
returns-in_err-key-clause-none c = grind (arith, common_steps, pair_at)

pub loop-i-preserved : goal.loop-i-preserved
loop-i-preserved c = grind (arith, common_steps, length-set)

pub returns-clause-found : goal.returns-clause-found
returns-clause-found c = grind (arith, common_steps)
