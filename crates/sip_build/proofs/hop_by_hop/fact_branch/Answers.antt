use Rattle.sip_build.proofs.Common.{rules}
use Rattle.sip_branch.proofs.laws.Tokens.{all_small}
use Rattle.sip_build.proofs.hop_by_hop.fact_branch.Goals as goal

pub returns : goal.returns
returns c = record { sixteen = search rules; bytes = all_small c.args.name.key (λ i. search rules); instance = search rules; context = search rules; target = search rules }
