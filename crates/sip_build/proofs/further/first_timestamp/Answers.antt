use Rattle.sip_build.proofs.Common.{arith}
use Rattle.sip_build.proofs.NamedGood.{timestamp-good}
use Rattle.sip_build.proofs.further.first_timestamp.Goals as goal

pub returns-clause-good : goal.returns-clause-good
returns-clause-good g c = grind (arith, timestamp-good c.args.message.now c.is_message.ensures.head.headers)
