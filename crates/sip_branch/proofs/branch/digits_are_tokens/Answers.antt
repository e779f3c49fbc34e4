use Rattle.sip_branch.proofs.Common.{arith}
use Rattle.sip_branch.proofs.laws.Tokens.{all_small, key_token}
use Rattle.sip_branch.proofs.branch.digits_are_tokens.Goals as goal

pub returns : goal.returns
returns c = key_token c.args.bytes.now (all_small c.args.bytes.now (λ i. let h = c.type_inv.bytes i in omega (arith, h)))
