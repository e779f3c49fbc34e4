-- The addresses of hosts, as a set in memory has them.
use Rattle.std.specs.Prelude.{◌≡◌, ℕ, Bool, List}
use Rattle.std.specs.BTreeSet.{BTreeSet, contains}
use Rattle.std.specs.Ordering.{nat_cmp}
use Rattle.proxy_config.specs.Setup.{Location}
use Rattle.service_config.specs.Settings.{Gateway, is_host}
use Rattle.service_config.specs.declared.hosts.Hosts.{Hosts}

-- whether the address with this number is among them
abbrev pub is_among : {A : Type 0} → Hosts A → ℕ → Bool
is_among hosts number = contains nat_cmp hosts.numbers number

-- they are those of the locations and gateways
abbrev pub AreHostsOf : {A : Type 0} → List Location → List Gateway → Hosts A → Type 0
AreHostsOf locations gateways hosts = (number : ℕ) → is_among hosts number ≡ is_host locations gateways number
