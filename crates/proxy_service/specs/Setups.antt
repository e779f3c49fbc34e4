-- The configuration of a service.
use Rattle.std.specs.Prelude.{◌≡◌, ℕ, Bool, true, List, Option, Some, None, if◌then◌else◌}
use Rattle.sip_via.specs.declared.own.Own.{Own}
use Rattle.proxy_config.specs.Setup.{Setup}
use Rattle.service_config.specs.Configuration.{IsServiceConfiguration}
use Rattle.service_config.specs.Settings.{Settings, of_own_realm}
use Rattle.service_files.specs.Configured.{IsConfigured}
use Rattle.service_files.specs.Faults.{IsFaultOf}
use Rattle.service_files.specs.declared.fault.DaemonFault.{DaemonFault}
use Rattle.service_files.specs.declared.fault.DaemonFault.TheVariants as fault
use Rattle.service_files.specs.declared.setup.Configuration.{Configuration}
use Rattle.service_files.specs.declared.setup.Identity.{Identity}
use Rattle.proxy_service.specs.declared.terms.RunSettings.{RunSettings}

-- by them all own Route values at the front of a request are taken away, a 100 has the Timestamp of its request, and a CANCEL says why
abbrev pub of_service : Settings → Settings
of_service settings = record settings { setup = record settings.setup { for_service = true; stamps = true; reasons = true } }

-- the own address is the domain with the own port alone
abbrev pub by_port_if : (own_port : Bool) → Settings → Settings
by_port_if own_port settings = if own_port then record settings { setup = record settings.setup { by_port = true } } else settings

-- a request that opens a dialog has a Record-Route line
abbrev pub recording_if : (records : Bool) → Settings → Settings
recording_if records settings = if records then record settings { setup = record settings.setup { records = true } } else settings

-- that names this address
abbrev pub recording_as_if : (route : Option Own) → Settings → Settings
recording_as_if None settings = settings
recording_as_if (Some route) settings = record settings { setup = record settings.setup { route = Some route } }

abbrev pub by_terms : RunSettings → Settings → Settings
by_terms terms settings = recording_as_if terms.route (recording_if terms.records (by_port_if terms.own_port (of_service settings)))

-- and, where there is a realm, as of_own_realm says
abbrev pub service_settings : RunSettings → Settings → Settings
service_settings terms settings = of_own_realm (by_terms terms settings)

-- a setup has the identity of the service
pub record IsOf (identity : Identity) (setup : Setup) : Type 0 where
  pub own : setup.own ≡ identity.own
  pub instance : setup.instance ≡ identity.instance

-- the texts, of a configuration and of its users, if there are any, spell it in a run with this number, with connections or without, and it is the service's
pub record IsServiceConfigured {A : Type 0} (terms : RunSettings) (text : List ℕ) (users : Option (List ℕ)) (configuration : Configuration A) : Type 0 where
  pub read : Configuration A
  pub spelled : IsConfigured text users terms.number terms.streams read
  pub is_of : IsOf terms.identity read.settings.setup
  pub settings_are : configuration.settings ≡ service_settings terms read.settings
  pub users_are : configuration.users ≡ read.users

-- they spell another service's
pub record IsOthers (terms : RunSettings) (text : List ℕ) : Type 0 where
  pub settings : Settings
  pub spelled : IsServiceConfiguration terms.number terms.streams text settings
  pub is_other : IsOf terms.identity settings.setup → ⊥

abbrev pub IsReloadFault : RunSettings → List ℕ → Option (List ℕ) → DaemonFault → Type 0
IsReloadFault terms text users fault.Identity = IsOthers terms text
IsReloadFault terms text users other = IsFaultOf text users terms.number terms.streams other
