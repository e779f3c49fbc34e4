use Rattle.sip_via.proofs.Common.{common_steps, arith}
use Rattle.sip_via.proofs.address.behind_address.Goals as goal

pub returns : goal.returns
returns c = grind (arith, common_steps)
