use Rattle.std.proofs.Common.{Vec}
use Rattle.service_config.proofs.Common.{◌≡◌, ◌∙◌, ℕ, List, Option, Some, None, ap, option_map, refl}
use Rattle.proxy_config.specs.Setup.{Setup}
use Rattle.service_config.specs.Settings.{in_realm}
use Rattle.service_config.proofs.HostSets.{hosts_stay}
use Rattle.service_config.proofs.settings.ServiceSettings.of_own_realm.Goals as goal

same_locations : (name : Option (List ℕ)) (setup : Setup) → (in_realm name setup).locations ≡ setup.locations
same_locations None setup = refl
same_locations (Some name) setup = refl

same_behind : (name : Option (List ℕ)) (setup made : Setup) → made ≡ in_realm name setup → made.locations ≡ setup.locations
same_behind name setup made is = ap (λ (s : Setup). s.locations) is ∙ same_locations name setup

pub invariant_of-self : goal.invariant_of-self
invariant_of-self g c =
    let name = option_map {T = Vec ℕ g.row.A.Denot} {U = List ℕ} (λ n. n.items) c.in_ok-name.name in
    hosts_stay c.in_realm.result.locations c.self.inside.setup.locations c.self.inside.gateways.items c.self.inside.hosts
    (same_behind name c.self.inside.setup c.in_realm.result c.in_realm.ensures) c.self.invariant
