use Rattle.proxy_config.proofs.Common.{[]}
use Rattle.proxy_config.proofs.Streams.{keeps_with_streams}
use Rattle.proxy_config.proofs.setup.Setup.with_streams.Goals as goal

pub invariant_of-self : goal.invariant_of-self
invariant_of-self g c = record {
  port = c.self.invariant.port;
  domain_is = c.self.invariant.domain_is;
  locations_keep = keeps_with_streams c.self.inside.streams [] c.self.inside.locations c.self.invariant.locations_keep;
}
