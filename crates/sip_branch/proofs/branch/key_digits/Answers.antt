use Rattle.sip_branch.proofs.Common.{arith, length-set, common_steps}
use Rattle.sip_branch.proofs.branch.key_digits.Goals as goal

pub loop-i-preserved : goal.loop-i-preserved
loop-i-preserved c = grind (arith, common_steps, length-set)

pub returns : goal.returns
returns c = grind (arith, common_steps)
