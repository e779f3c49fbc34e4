use Rattle.sip_uri.proofs.Common.{arith}
use Rattle.sip_uri.proofs.Tails.{rest_within}
use Rattle.sip_uri.proofs.write.tail_of.Goals as goal

pub returns-clause-within : goal.returns-clause-within
returns-clause-within c = grind (arith, rest_within)
