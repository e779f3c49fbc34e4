-- What reading a list of users gives, want of memory aside.
use Rattle.std.specs.Prelude.{◌≡◌, ℕ, List, Result, Ok, Err}
use Rattle.sip_digest.specs.declared.algorithm.Algorithms.{Algorithms}
use Rattle.sip_digest.specs.declared.user_fault.UserFault.{UserFault}
use Rattle.sip_digest.specs.declared.user_fault.UserFault.TheVariants as fault
use Rattle.sip_digest.specs.declared.users.UserList.{UserList}
use Rattle.sip_digest.specs.User.{User, secrets_named}
use Rattle.sip_digest.specs.Users.{IsMalformedAt, ListsUsers}
use Rattle.sip_digest.specs.UserIndex.{secrets_at}

module _ {A : Type 0} where
  -- each name is found with what its user has, and no other name
  abbrev pub Has : UserList A → List User → Type 0
  Has list users = (name : List ℕ) → secrets_at list name ≡ secrets_named name users

  abbrev pub HasListed : Algorithms → List ℕ → UserList A → Type 0
  HasListed algorithms text list = (users : List User) × ListsUsers algorithms text users × Has list users

  abbrev pub GivesUsers : List User → Result (UserList A) UserFault → Type 0
  GivesUsers users (Ok list) = Has list users
  GivesUsers users (Err (fault.Line number)) = ⊥
  GivesUsers users (Err fault.NoMemory) = Unit {0}

-- the fault names the first malformed line, or is want of memory
abbrev pub IsFaultOf : Algorithms → List ℕ → UserFault → Type 0
IsFaultOf algorithms text (fault.Line number) = IsMalformedAt algorithms text number
IsFaultOf algorithms text fault.NoMemory = Unit {0}
