-- The configuration of a proxy: what its text sets a service up with, and who has a password, by the list of users that goes with a realm.
use Rattle.std.specs.Prelude.{ℕ, Bool, List, Option, Some, None}
use Rattle.std.specs.Option.{option_map}
use Rattle.service_config.specs.Configuration.{IsServiceConfiguration}
use Rattle.service_config.specs.Settings.{Realm, Settings}
use Rattle.service_config.specs.declared.users_fault.UsersFault.{UsersFault}
use Rattle.service_config.specs.declared.users_fault.UsersFault.TheVariants as fault
use Rattle.sip_digest.specs.declared.algorithm.Algorithms.{Algorithms}
use Rattle.sip_digest.specs.declared.users.UserList.{UserList}
use Rattle.sip_digest.specs.User.{User}
use Rattle.sip_digest.specs.UserView.{HasListed}
use Rattle.sip_digest.specs.Users as listed
use Rattle.service_files.specs.declared.setup.Configuration.{Configuration}

abbrev pub algorithms_of : Realm → Algorithms
algorithms_of realm = realm.algorithms

abbrev pub algorithms_in : Settings → Option Algorithms
algorithms_in settings = option_map algorithms_of settings.realm

-- a realm has the users that the list has, and without a realm there is no list
module _ {A : Type 0} where
  abbrev pub AreUsers : Option Algorithms → Option (List ℕ) → Option (UserList A) → Type 0
  AreUsers (Some algorithms) (Some text) (Some list) = HasListed algorithms text list
  AreUsers None None None = Unit {0}
  AreUsers _ _ _ = ⊥

abbrev pub SpellsUsers : Option Algorithms → Option (List ℕ) → Type 0
SpellsUsers (Some algorithms) (Some text) = (users : List User) × listed.ListsUsers algorithms text users
SpellsUsers None None = Unit {0}
SpellsUsers _ _ = ⊥

-- why there are none: one is without the other, or this is the first malformed line of the list
abbrev pub IsUsersFaultOf : Option Algorithms → Option (List ℕ) → UsersFault → Type 0
IsUsersFaultOf (Some algorithms) None fault.NoUsers = Unit {0}
IsUsersFaultOf None (Some text) fault.NoRealm = Unit {0}
IsUsersFaultOf (Some algorithms) (Some text) (fault.Line n) = listed.IsMalformedAt algorithms text n
IsUsersFaultOf (Some algorithms) (Some text) fault.NoMemory = Unit {0}
IsUsersFaultOf _ _ _ = ⊥

-- these texts, of the configuration and of its users, if there are any, set a proxy up so, in a run with this number, with connections or without
pub record IsConfigured {A : Type 0} (text : List ℕ) (users : Option (List ℕ)) (number : ℕ) (streams : Bool) (configuration : Configuration A) : Type 0 where
  pub settings : IsServiceConfiguration number streams text configuration.settings
  pub users_are : AreUsers (algorithms_in configuration.settings) users configuration.users

-- the first one would, but its users cannot be had
pub record LacksUsers (text : List ℕ) (users : Option (List ℕ)) (number : ℕ) (streams : Bool) (why : UsersFault) : Type 0 where
  pub settings : Settings
  pub spelled : IsServiceConfiguration number streams text settings
  pub lacks : IsUsersFaultOf (algorithms_in settings) users why
