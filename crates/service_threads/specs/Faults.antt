-- Why a proxy serves no longer, or not at all.
use Rattle.std.specs.Prelude.{◌<◌, ◌≤◌, ℕ, Bool, List, Option, length}
use Rattle.service_config.specs.Configuration.{IsMalformedAt}
use Rattle.service_config.specs.Configuration.{IsServiceConfiguration}
use Rattle.service_config.specs.Settings.{Settings}
use Rattle.service_files.specs.Configured.{LacksUsers, SpellsUsers, algorithms_in}
use Rattle.service_files.specs.declared.fault.DaemonFault.{DaemonFault}
use Rattle.service_files.specs.declared.fault.DaemonFault.TheVariants as fault
use Rattle.service_files.specs.Faults.{most_text}

-- the system refuses, a secret that is named cannot be had, or there is no memory
abbrev pub IsSystemFault : DaemonFault → Type 0
IsSystemFault fault.NoMemory = Unit {0}
IsSystemFault fault.Clock = Unit {0}
IsSystemFault fault.Random = Unit {0}
IsSystemFault fault.Socket = Unit {0}
IsSystemFault fault.Control = Unit {0}
IsSystemFault fault.Metrics = Unit {0}
IsSystemFault fault.Journal = Unit {0}
IsSystemFault fault.Store = Unit {0}
IsSystemFault fault.Secret = Unit {0}
IsSystemFault _ = ⊥

-- in a run with this number, with connections or without, with this list of users, if there is one
abbrev pub Spells : List ℕ → Option (List ℕ) → ℕ → (streams : Bool) → Type 0
Spells text users number streams =
    (settings : Settings) × IsServiceConfiguration number streams text settings × SpellsUsers (algorithms_in settings) users

-- the text is not too long, and spells what a service goes by in a run with this number, with connections or without
abbrev pub IsRead : List ℕ → Option (List ℕ) → ℕ → (streams : Bool) → Type 0
IsRead text users number streams = (length text ≤ most_text) × Spells text users number streams

-- what each fault says of the texts of the configuration and of its users: it is too long; it is not, and this is its first malformed line, or this is
-- why its users cannot be had; they were read
abbrev pub IsServeFaultOf : List ℕ → Option (List ℕ) → ℕ → (streams : Bool) → DaemonFault → Type 0
IsServeFaultOf text users number streams fault.TooLong = most_text < length text
IsServeFaultOf text users number streams (fault.Line n) = (length text ≤ most_text) × IsMalformedAt number streams text n
IsServeFaultOf text users number streams (fault.Users why) = (length text ≤ most_text) × LacksUsers text users number streams why
IsServeFaultOf text users number streams fault.NoMemory = length text ≤ most_text
IsServeFaultOf text users number streams fault.Clock = IsRead text users number streams
IsServeFaultOf text users number streams fault.Random = IsRead text users number streams
IsServeFaultOf text users number streams fault.Socket = IsRead text users number streams
IsServeFaultOf text users number streams fault.Control = IsRead text users number streams
IsServeFaultOf text users number streams fault.Metrics = IsRead text users number streams
IsServeFaultOf text users number streams fault.Journal = IsRead text users number streams
IsServeFaultOf text users number streams fault.Store = IsRead text users number streams
IsServeFaultOf text users number streams fault.Secret = IsRead text users number streams
IsServeFaultOf text users number streams _ = ⊥

-- only a configuration that is read anew has another identity
abbrev pub IsServeFault : DaemonFault → Type 0
IsServeFault fault.Identity = ⊥
IsServeFault _ = Unit {0}
