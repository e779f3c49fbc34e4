-- Why a proxy does not serve, or serves no longer.
use Rattle.std.specs.Prelude.{◌<◌, ◌≤◌, ◌-◌, ℕ, Bool, List, Option, Some, None, length}
use Rattle.sip_via.specs.declared.own.Own.{Own}
use Rattle.service_config.specs.Configuration.{IsMalformedAt}
use Rattle.service_config.specs.declared.users_fault.UsersFault.{UsersFault}
use Rattle.service_config.specs.declared.users_fault.UsersFault.TheVariants as users
use Rattle.service_files.specs.Configured.{LacksUsers}
use Rattle.service_files.specs.declared.fault.DaemonFault.{DaemonFault}
use Rattle.service_files.specs.declared.fault.DaemonFault.TheVariants as fault

abbrev pub exit_status : DaemonFault → ℕ
exit_status fault.Unreadable = 1
exit_status fault.TooLong = 1
exit_status (fault.Line n) = 1
exit_status (fault.Users why) = 1
exit_status fault.Identity = 1
exit_status fault.NoMemory = 3
exit_status fault.Clock = 5
exit_status fault.Random = 5
exit_status fault.Socket = 5
exit_status fault.Control = 5
exit_status fault.Metrics = 5
exit_status fault.Journal = 5
exit_status fault.Store = 5
exit_status fault.Secret = 1

abbrev pub one_line_up : DaemonFault → DaemonFault
one_line_up (fault.Line n) = fault.Line (n - 1)
one_line_up other = other

-- of the file of a configuration, before whose text the line of an own address stood that is said elsewhere, if one is
abbrev pub in_file : Option Own → DaemonFault → DaemonFault
in_file None f = f
in_file (Some own) f = one_line_up f

-- a configuration has at most so many bytes
abbrev pub most_text : ℕ
most_text = 1048576

-- what each fault says of the text of a configuration that was read in a run with this number, with connections or without: it is too long; it is not,
-- and this is its first malformed line
abbrev pub IsSettingsFaultOf : List ℕ → ℕ → (streams : Bool) → DaemonFault → Type 0
IsSettingsFaultOf text number streams fault.TooLong = most_text < length text
IsSettingsFaultOf text number streams (fault.Line n) = (length text ≤ most_text) × IsMalformedAt number streams text n
IsSettingsFaultOf text number streams fault.NoMemory = length text ≤ most_text
IsSettingsFaultOf text number streams _ = ⊥

-- what each fault says of the texts of a configuration that was read in a run with this number, with connections or without: it is too long; it is not,
-- and this is its first malformed line, or it is well-formed, and this is why its users cannot be had
abbrev pub IsFaultOf : List ℕ → Option (List ℕ) → ℕ → (streams : Bool) → DaemonFault → Type 0
IsFaultOf text users number streams fault.TooLong = most_text < length text
IsFaultOf text users number streams (fault.Line n) = (length text ≤ most_text) × IsMalformedAt number streams text n
IsFaultOf text users number streams (fault.Users why) = (length text ≤ most_text) × LacksUsers text users number streams why
IsFaultOf text users number streams fault.NoMemory = length text ≤ most_text
IsFaultOf text users number streams _ = ⊥

abbrev pub fault_of_users : UsersFault → DaemonFault
fault_of_users users.NoMemory = fault.NoMemory
fault_of_users users.Unreadable = fault.Users users.Unreadable
fault_of_users users.TooLong = fault.Users users.TooLong
fault_of_users (users.Line n) = fault.Users (users.Line n)
fault_of_users users.NoUsers = fault.Users users.NoUsers
fault_of_users users.NoRealm = fault.Users users.NoRealm

-- why a configuration's file is not taken
abbrev pub IsConfigurationFault : DaemonFault → Type 0
IsConfigurationFault fault.Unreadable = Unit {0}
IsConfigurationFault fault.TooLong = Unit {0}
IsConfigurationFault (fault.Line n) = Unit {0}
IsConfigurationFault (fault.Users why) = Unit {0}
IsConfigurationFault fault.NoMemory = Unit {0}
IsConfigurationFault _ = ⊥

-- why the socket cannot be used
abbrev pub IsSocketFault : DaemonFault → Type 0
IsSocketFault fault.Socket = Unit {0}
IsSocketFault fault.NoMemory = Unit {0}
IsSocketFault _ = ⊥

-- why the control socket cannot be made
abbrev pub IsControlFault : DaemonFault → Type 0
IsControlFault fault.Control = Unit {0}
IsControlFault fault.NoMemory = Unit {0}
IsControlFault _ = ⊥

-- why the address for those who scrape the counters cannot be bound
abbrev pub IsMetricsFault : DaemonFault → Type 0
IsMetricsFault fault.Metrics = Unit {0}
IsMetricsFault fault.NoMemory = Unit {0}
IsMetricsFault _ = ⊥

-- why the file to which each call is written cannot be opened
abbrev pub IsJournalFault : DaemonFault → Type 0
IsJournalFault fault.Journal = Unit {0}
IsJournalFault fault.NoMemory = Unit {0}
IsJournalFault _ = ⊥

-- why the file in which bindings are kept cannot be used
abbrev pub IsStoreFault : DaemonFault → Type 0
IsStoreFault fault.Store = Unit {0}
IsStoreFault fault.NoMemory = Unit {0}
IsStoreFault _ = ⊥

-- why the file of the secret cannot be read
abbrev pub IsSecretFault : DaemonFault → Type 0
IsSecretFault fault.Secret = Unit {0}
IsSecretFault fault.NoMemory = Unit {0}
IsSecretFault _ = ⊥

-- why the file of the users cannot be read
abbrev pub IsUsersFault : DaemonFault → Type 0
IsUsersFault (fault.Users users.Unreadable) = Unit {0}
IsUsersFault fault.NoMemory = Unit {0}
IsUsersFault _ = ⊥
