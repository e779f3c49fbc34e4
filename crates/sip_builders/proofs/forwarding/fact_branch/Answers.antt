use Rattle.sip_builders.proofs.Common.{rules}
use Rattle.sip_branch.proofs.laws.Tokens.{all_small}
use Rattle.sip_builders.proofs.forwarding.fact_branch.Goals as goal

pub returns : goal.returns
returns c = record { sixteen = search rules; bytes = all_small c.args.name.key (λ i. search rules); instance = search rules; context = search rules; target = search rules }
