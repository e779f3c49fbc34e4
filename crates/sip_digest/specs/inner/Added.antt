-- What adding to a list of users does.
use Rattle.std.specs.Prelude.{◌≡◌, ◌≢◌, ℕ, Bool, true, false, List, Option, Some, None, Result, Ok, Err}
use Rattle.sip_digest.specs.declared.algorithm.Algorithms.{Algorithms}
use Rattle.sip_digest.specs.declared.user_fault.UserFault.{UserFault}
use Rattle.sip_digest.specs.declared.user_fault.UserFault.TheVariants as fault
use Rattle.sip_digest.specs.declared.users.UserList.{UserList}
use Rattle.sip_digest.specs.User.{User}
use Rattle.sip_digest.specs.UserView.{Has}
use Rattle.sip_digest.specs.inner.UsersReading.{with_text, with_user}
use Rattle.sip_digest.specs.UserIndex.{secrets_at}

module _ {A : Type 0} where
  -- a user has come, and each other is as it was
  abbrev pub IsAdded : User → UserList A → UserList A → Type 0
  IsAdded user old new = (secrets_at new user.name ≡ Some user.secrets) × ((other : List ℕ) → other ≢ user.name → secrets_at new other ≡ secrets_at old other)

  -- there are these users, or nothing was added
  abbrev pub IsWith : Option (List User) → Bool → UserList A → Type 0
  IsWith None done new = done ≡ false
  IsWith (Some users) done new = (done ≡ true) × Has new users

  abbrev pub IsWithUser : List User → User → Bool → UserList A → Type 0
  IsWithUser users user done new = IsWith (with_user users user) done new

  abbrev pub IsWithText : Algorithms → List User → List ℕ → Bool → UserList A → Type 0
  IsWithText algorithms users text done new = IsWith (with_text algorithms users text) done new

  -- a list of the users that are read, or the fault, want of memory aside
  abbrev pub GivesRead : Result (List User) ℕ → Result (UserList A) UserFault → Type 0
  GivesRead expected (Ok list) = (users : List User) × (expected ≡ Ok users) × Has list users
  GivesRead expected (Err (fault.Line number)) = expected ≡ Err number
  GivesRead expected (Err fault.NoMemory) = Unit {0}
