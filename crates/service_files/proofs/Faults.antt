-- Why the users of a configuration cannot be had is a fault of its texts; and what is one of its text is one of its file.
use Rattle.std.proofs.Common.{◌≡◌, ◌≤◌, ℕ, Bool, List, None, Option, Some, length, subst, sym}
use Rattle.sip_via.specs.declared.own.Own.{Own}
use Rattle.service_config.specs.Configuration.{IsServiceConfiguration}
use Rattle.service_config.specs.Settings.{Settings}
use Rattle.service_config.specs.declared.users_fault.UsersFault.{UsersFault}
use Rattle.service_config.specs.declared.users_fault.UsersFault.TheVariants as users
use Rattle.service_files.specs.Configured.{IsUsersFaultOf, algorithms_in}
use Rattle.service_files.specs.Faults.{IsConfigurationFault, IsFaultOf, fault_of_users, in_file, most_text, one_line_up}
use Rattle.service_files.specs.declared.fault.DaemonFault.{DaemonFault}
use Rattle.service_files.specs.declared.fault.DaemonFault.TheVariants as fault

pub not_too_long : (f : UsersFault) → fault_of_users f ≡ fault.TooLong → ⊥
not_too_long users.NoMemory e = absurd cc
not_too_long users.Unreadable e = absurd cc
not_too_long users.TooLong e = absurd cc
not_too_long (users.Line n) e = absurd cc
not_too_long users.NoUsers e = absurd cc
not_too_long users.NoRealm e = absurd cc

pub lacks_users : (text : List ℕ) (list : Option (List ℕ)) (number : ℕ) (streams : Bool) (settings : Settings) → IsServiceConfiguration number streams text settings → length text ≤ most_text
    → (f : UsersFault) → IsUsersFaultOf (algorithms_in settings) list f → IsFaultOf text list number streams (fault_of_users f)
lacks_users text list number streams settings spelled fits users.NoMemory is = fits
lacks_users text list number streams settings spelled fits users.Unreadable is = (fits, record { settings = settings; spelled = spelled; lacks = is })
lacks_users text list number streams settings spelled fits users.TooLong is = (fits, record { settings = settings; spelled = spelled; lacks = is })
lacks_users text list number streams settings spelled fits (users.Line n) is = (fits, record { settings = settings; spelled = spelled; lacks = is })
lacks_users text list number streams settings spelled fits users.NoUsers is = (fits, record { settings = settings; spelled = spelled; lacks = is })
lacks_users text list number streams settings spelled fits users.NoRealm is = (fits, record { settings = settings; spelled = spelled; lacks = is })

up_read : (f : DaemonFault) → IsConfigurationFault f → IsConfigurationFault (one_line_up f)
up_read fault.Unreadable is = tt
up_read fault.TooLong is = tt
up_read (fault.Line n) is = tt
up_read (fault.Users why) is = tt
up_read fault.NoMemory is = tt
up_read fault.Identity is = absurd is
up_read fault.Clock is = absurd is
up_read fault.Random is = absurd is
up_read fault.Socket is = absurd is
up_read fault.Control is = absurd is
up_read fault.Metrics is = absurd is
up_read fault.Journal is = absurd is
up_read fault.Store is = absurd is
up_read fault.Secret is = absurd is

at_read : (own : Option Own) (f : DaemonFault) → IsConfigurationFault f → IsConfigurationFault (in_file own f)
at_read None f is = is
at_read (Some own) f is = up_read f is

pub in_file_read : (own : Option Own) (f g : DaemonFault) → g ≡ in_file own f → IsConfigurationFault f → IsConfigurationFault g
in_file_read own f g e is = subst IsConfigurationFault (sym e) (at_read own f is)
