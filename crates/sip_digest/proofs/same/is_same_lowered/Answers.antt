use Rattle.sip_digest.proofs.Common.{arith, common_steps}
use Rattle.sip_digest.proofs.Compared.{same_next}
use Rattle.sip_digest.proofs.same.is_same_lowered.Goals as goal

pub loop-i-preserved : goal.loop-i-preserved
loop-i-preserved c = grind (arith, common_steps, same_next)
