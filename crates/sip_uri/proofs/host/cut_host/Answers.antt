use Rattle.sip_uri.proofs.Common.{ℕ, List, false, subst, sym, BeginsWithEnd, LacksEnds, common_steps, arith}
use Rattle.sip_uri.proofs.laws.Hosts.{front_lacks, rest_begins}
use Rattle.sip_uri.proofs.host.cut_host.Goals as goal

pub returns-clause-whole : goal.returns-clause-whole
returns-clause-whole c = grind (arith, common_steps)

pub returns-clause-front : goal.returns-clause-front
returns-clause-front c = subst (λ (x : List ℕ). LacksEnds false x) (sym c.split_host.ensures.host) (front_lacks false c.args.text.now)

pub returns-clause-begins : goal.returns-clause-begins
returns-clause-begins c = subst (λ (x : List ℕ). BeginsWithEnd x) (sym c.split_host.ensures.rest) (rest_begins false c.args.text.now)
