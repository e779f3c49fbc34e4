use Rattle.service_config.proofs.Common.{ap}
use Rattle.proxy_config.specs.Setup.{Setup}
use Rattle.service_config.proofs.HostSets.{hosts_stay}
use Rattle.service_config.proofs.settings.ServiceSettings.recording_as.Goals as goal

pub invariant_of-self : goal.invariant_of-self
invariant_of-self g c = hosts_stay _ _ c.self.inside.gateways.items c.self.inside.hosts (ap (λ (s : Setup). s.locations) c.recording_as.ensures) c.self.invariant
