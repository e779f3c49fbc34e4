use Rattle.std.proofs.Common.{rules}
use Rattle.sip_branch.proofs.laws.Tokens.{all_small}
use Rattle.call_state.proofs.matching.fact_branch.Goals as goal

pub returns : goal.returns
returns c = record { sixteen = search rules; bytes = all_small c.args.name.key (λ i. search rules); instance = search rules; context = search rules; target = search rules }
