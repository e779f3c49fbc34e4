use Rattle.service_config.proofs.Common.{List, subst}
use Rattle.proxy_config.specs.Setup.{Location}
use Rattle.service_config.specs.Settings.{Gateway}
use Rattle.service_config.specs.inner.Hosts.{AreHostsOf}
use Rattle.service_config.proofs.draft.SettingsDraft.into_settings.Goals as goal

pub invariant_of-result : goal.invariant_of-result
invariant_of-result g c =
    subst (λ (ls : List Location). AreHostsOf ls c.parts.inside.gateways.items c.in_ok-hosts.hosts) c.locations.ensures.value
    (subst (λ (gs : List Gateway). AreHostsOf c.locations.result.now gs c.in_ok-hosts.hosts) c.deref.ensures.value c.in_ok-hosts.ensures)
