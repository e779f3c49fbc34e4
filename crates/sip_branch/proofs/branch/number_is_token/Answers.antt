use Rattle.sip_branch.proofs.Common.{arith}
use Rattle.sip_branch.proofs.laws.Tokens.{dotted}
use Rattle.sip_branch.proofs.branch.number_is_token.Goals as goal

pub returns : goal.returns
returns c = dotted c.args.n (let h = c.ranges.n in omega (arith, h))
