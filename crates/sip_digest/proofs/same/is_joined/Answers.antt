use Rattle.sip_digest.proofs.Common.{arith, common_steps}
use Rattle.sip_digest.proofs.Compared.{same_joined}
use Rattle.sip_digest.proofs.same.is_joined.Goals as goal

pub returns : goal.returns
returns c = grind (arith, common_steps, same_joined c.args.text.now c.args.front.now c.args.back.now)
