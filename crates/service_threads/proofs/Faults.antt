-- Each fault of a part is one of the whole.
use Rattle.std.proofs.Common.{◌≡◌, subst, sym}
use Rattle.std.specs.Prelude.{◌≤◌, ℕ, Bool, List, Option, Some, None, Result, Ok, Err, IfErr, length}
use Rattle.sip_via.specs.declared.own.Own.{Own}
use Rattle.sip_digest.specs.declared.algorithm.Algorithms.{Algorithms}
use Rattle.sip_digest.specs.declared.users.UserList.{UserList}
use Rattle.service_files.specs.Configured.{AreUsers, IsConfigured, SpellsUsers, algorithms_in}
use Rattle.service_files.specs.declared.setup.Configuration.{Configuration}
use Rattle.service_files.specs.declared.fault.DaemonFault.{DaemonFault}
use Rattle.service_files.specs.declared.fault.DaemonFault.TheVariants as fault
use Rattle.service_files.specs.Faults.{most_text, IsConfigurationFault, IsControlFault, IsFaultOf, IsJournalFault, IsMetricsFault, IsSecretFault, IsSocketFault, IsStoreFault, in_file, one_line_up}
use Rattle.service_threads.specs.Faults.{IsServeFault, IsServeFaultOf, IsSystemFault, Spells}

pub socket_is_system : (f : DaemonFault) → IsSocketFault f → IsSystemFault f
socket_is_system fault.Socket is = tt
socket_is_system fault.NoMemory is = tt
socket_is_system fault.Unreadable is = absurd is
socket_is_system fault.TooLong is = absurd is
socket_is_system (fault.Line n) is = absurd is
socket_is_system (fault.Users why) is = absurd is
socket_is_system fault.Random is = absurd is
socket_is_system fault.Identity is = absurd is
socket_is_system fault.Clock is = absurd is
socket_is_system fault.Control is = absurd is
socket_is_system fault.Metrics is = absurd is
socket_is_system fault.Journal is = absurd is
socket_is_system fault.Store is = absurd is
socket_is_system fault.Secret is = absurd is

pub control_is_system : (f : DaemonFault) → IsControlFault f → IsSystemFault f
control_is_system fault.Control is = tt
control_is_system fault.NoMemory is = tt
control_is_system fault.Unreadable is = absurd is
control_is_system fault.TooLong is = absurd is
control_is_system (fault.Line n) is = absurd is
control_is_system (fault.Users why) is = absurd is
control_is_system fault.Random is = absurd is
control_is_system fault.Identity is = absurd is
control_is_system fault.Clock is = absurd is
control_is_system fault.Socket is = absurd is
control_is_system fault.Metrics is = absurd is
control_is_system fault.Journal is = absurd is
control_is_system fault.Store is = absurd is
control_is_system fault.Secret is = absurd is

pub metrics_is_system : (f : DaemonFault) → IsMetricsFault f → IsSystemFault f
metrics_is_system fault.Metrics is = tt
metrics_is_system fault.Journal is = absurd is
metrics_is_system fault.Store is = absurd is
metrics_is_system fault.Secret is = absurd is
metrics_is_system fault.NoMemory is = tt
metrics_is_system fault.Unreadable is = absurd is
metrics_is_system fault.TooLong is = absurd is
metrics_is_system (fault.Line n) is = absurd is
metrics_is_system (fault.Users why) is = absurd is
metrics_is_system fault.Random is = absurd is
metrics_is_system fault.Identity is = absurd is
metrics_is_system fault.Clock is = absurd is
metrics_is_system fault.Socket is = absurd is
metrics_is_system fault.Control is = absurd is

pub journal_is_system : (f : DaemonFault) → IsJournalFault f → IsSystemFault f
journal_is_system fault.Journal is = tt
journal_is_system fault.Store is = absurd is
journal_is_system fault.Secret is = absurd is
journal_is_system fault.NoMemory is = tt
journal_is_system fault.Unreadable is = absurd is
journal_is_system fault.TooLong is = absurd is
journal_is_system (fault.Line n) is = absurd is
journal_is_system (fault.Users why) is = absurd is
journal_is_system fault.Random is = absurd is
journal_is_system fault.Identity is = absurd is
journal_is_system fault.Clock is = absurd is
journal_is_system fault.Socket is = absurd is
journal_is_system fault.Control is = absurd is
journal_is_system fault.Metrics is = absurd is

pub store_is_system : (f : DaemonFault) → IsStoreFault f → IsSystemFault f
store_is_system fault.Store is = tt
store_is_system fault.Secret is = absurd is
store_is_system fault.NoMemory is = tt
store_is_system fault.Unreadable is = absurd is
store_is_system fault.TooLong is = absurd is
store_is_system (fault.Line n) is = absurd is
store_is_system (fault.Users why) is = absurd is
store_is_system fault.Random is = absurd is
store_is_system fault.Identity is = absurd is
store_is_system fault.Clock is = absurd is
store_is_system fault.Socket is = absurd is
store_is_system fault.Control is = absurd is
store_is_system fault.Metrics is = absurd is
store_is_system fault.Journal is = absurd is

pub secret_is_system : (f : DaemonFault) → IsSecretFault f → IsSystemFault f
secret_is_system fault.Secret is = tt
secret_is_system fault.NoMemory is = tt
secret_is_system fault.Unreadable is = absurd is
secret_is_system fault.TooLong is = absurd is
secret_is_system (fault.Line n) is = absurd is
secret_is_system (fault.Users why) is = absurd is
secret_is_system fault.Identity is = absurd is
secret_is_system fault.Clock is = absurd is
secret_is_system fault.Random is = absurd is
secret_is_system fault.Socket is = absurd is
secret_is_system fault.Control is = absurd is
secret_is_system fault.Metrics is = absurd is
secret_is_system fault.Journal is = absurd is
secret_is_system fault.Store is = absurd is

spelled_users : {A : Type 0} (algorithms : Option Algorithms) (text : Option (List ℕ)) (list : Option (UserList A)) → AreUsers algorithms text list → SpellsUsers algorithms text
spelled_users (Some a) (Some t) (Some l) are = (are.0, are.1)
spelled_users (Some a) (Some t) None are = absurd are
spelled_users (Some a) None None are = absurd are
spelled_users (Some a) None (Some l) are = absurd are
spelled_users None (Some t) None are = absurd are
spelled_users None (Some t) (Some l) are = absurd are
spelled_users None None None are = tt
spelled_users None None (Some l) are = absurd are

pub configured_spells : {A : Type 0} (text : List ℕ) (users : Option (List ℕ)) (number : ℕ) (streams : Bool) (configuration : Configuration A) → IsConfigured text users number streams configuration → Spells text users number streams
configured_spells text users number streams configuration is =
    (configuration.settings, is.settings, spelled_users (algorithms_in configuration.settings) users configuration.users is.users_are)

pub read_is_serve : (text : List ℕ) (users : Option (List ℕ)) (number : ℕ) (streams : Bool) (f : DaemonFault) → IsFaultOf text users number streams f → IsServeFaultOf text users number streams f
read_is_serve text users number streams fault.TooLong is = is
read_is_serve text users number streams (fault.Line n) is = is
read_is_serve text users number streams (fault.Users why) is = is
read_is_serve text users number streams fault.Random is = absurd is
read_is_serve text users number streams fault.NoMemory is = is
read_is_serve text users number streams fault.Unreadable is = absurd is
read_is_serve text users number streams fault.Identity is = absurd is
read_is_serve text users number streams fault.Clock is = absurd is
read_is_serve text users number streams fault.Socket is = absurd is
read_is_serve text users number streams fault.Control is = absurd is
read_is_serve text users number streams fault.Metrics is = absurd is
read_is_serve text users number streams fault.Journal is = absurd is
read_is_serve text users number streams fault.Store is = absurd is
read_is_serve text users number streams fault.Secret is = absurd is

pub system_is_serve : (text : List ℕ) (users : Option (List ℕ)) (number : ℕ) (streams : Bool) (f : DaemonFault) → length text ≤ most_text → Spells text users number streams → IsSystemFault f → IsServeFaultOf text users number streams f
system_is_serve text users number streams fault.NoMemory fits spells is = fits
system_is_serve text users number streams fault.Clock fits spells is = (fits, spells)
system_is_serve text users number streams fault.Socket fits spells is = (fits, spells)
system_is_serve text users number streams fault.Control fits spells is = (fits, spells)
system_is_serve text users number streams fault.Metrics fits spells is = (fits, spells)
system_is_serve text users number streams fault.Journal fits spells is = (fits, spells)
system_is_serve text users number streams fault.Store fits spells is = (fits, spells)
system_is_serve text users number streams fault.Secret fits spells is = (fits, spells)
system_is_serve text users number streams fault.Unreadable fits spells is = absurd is
system_is_serve text users number streams fault.TooLong fits spells is = absurd is
system_is_serve text users number streams (fault.Line n) fits spells is = absurd is
system_is_serve text users number streams (fault.Users why) fits spells is = absurd is
system_is_serve text users number streams fault.Random fits spells is = (fits, spells)
system_is_serve text users number streams fault.Identity fits spells is = absurd is

pub system_ends_serve : {V : Type 0} (text : List ℕ) (users : Option (List ℕ)) (number : ℕ) (streams : Bool) (r : Result V DaemonFault) → length text ≤ most_text → Spells text users number streams → IfErr r IsSystemFault → IfErr r (IsServeFaultOf text users number streams)
system_ends_serve text users number streams (Ok v) fits spells is = tt
system_ends_serve text users number streams (Err f) fits spells is = system_is_serve text users number streams f fits spells is

pub configuration_is_serve : (f : DaemonFault) → IsConfigurationFault f → IsServeFault f
configuration_is_serve fault.Unreadable is = tt
configuration_is_serve fault.TooLong is = tt
configuration_is_serve (fault.Line n) is = tt
configuration_is_serve (fault.Users why) is = tt
configuration_is_serve fault.Random is = tt
configuration_is_serve fault.NoMemory is = tt
configuration_is_serve fault.Clock is = tt
configuration_is_serve fault.Socket is = tt
configuration_is_serve fault.Control is = tt
configuration_is_serve fault.Metrics is = tt
configuration_is_serve fault.Journal is = tt
configuration_is_serve fault.Store is = tt
configuration_is_serve fault.Secret is = tt
configuration_is_serve fault.Identity is = absurd is

pub text_is_serve : (text : List ℕ) (users : Option (List ℕ)) (number : ℕ) (streams : Bool) (f : DaemonFault) → IsServeFaultOf text users number streams f → IsServeFault f
text_is_serve text users number streams fault.Unreadable is = tt
text_is_serve text users number streams fault.TooLong is = tt
text_is_serve text users number streams (fault.Line n) is = tt
text_is_serve text users number streams (fault.Users why) is = tt
text_is_serve text users number streams fault.Random is = tt
text_is_serve text users number streams fault.NoMemory is = tt
text_is_serve text users number streams fault.Clock is = tt
text_is_serve text users number streams fault.Socket is = tt
text_is_serve text users number streams fault.Control is = tt
text_is_serve text users number streams fault.Metrics is = tt
text_is_serve text users number streams fault.Journal is = tt
text_is_serve text users number streams fault.Store is = tt
text_is_serve text users number streams fault.Secret is = tt
text_is_serve text users number streams fault.Identity is = absurd is

up_serves : (f : DaemonFault) → IsServeFault f → IsServeFault (one_line_up f)
up_serves fault.Unreadable is = tt
up_serves fault.TooLong is = tt
up_serves (fault.Line n) is = tt
up_serves (fault.Users why) is = tt
up_serves fault.NoMemory is = tt
up_serves fault.Clock is = tt
up_serves fault.Random is = tt
up_serves fault.Socket is = tt
up_serves fault.Control is = tt
up_serves fault.Metrics is = tt
up_serves fault.Journal is = tt
up_serves fault.Store is = tt
up_serves fault.Secret is = tt
up_serves fault.Identity is = absurd is

at_serves : (own : Option Own) (f : DaemonFault) → IsServeFault f → IsServeFault (in_file own f)
at_serves None f is = is
at_serves (Some own) f is = up_serves f is

-- the number of a line is that of its file
pub in_file_is_serve : (own : Option Own) (f g : DaemonFault) → g ≡ in_file own f → IsServeFault f → IsServeFault g
in_file_is_serve own f g e is = subst IsServeFault (sym e) (at_serves own f is)
