use Rattle.proxy_config.proofs.Common.{List, Location, [], subst, sym}
use Rattle.proxy_config.specs.Setup.{KeepsRulesWith}
use Rattle.proxy_config.proofs.Ringing.{still_keeps}
use Rattle.proxy_config.proofs.setup.Setup.ringing.Goals as goal

pub invariant_of-self : goal.invariant_of-self
invariant_of-self g c = record {
  port = c.self.invariant.port;
  domain_is = c.self.invariant.domain_is;
  locations_keep = subst (λ (locations : List Location). KeepsRulesWith c.self.inside.streams locations) (sym c.ring.ensures) (still_keeps c.self.inside.streams c.args.longest [] c.self.inside.locations c.self.invariant.locations_keep);
}
