-- Reading a list of users up to some line.
use Rattle.std.specs.Prelude.{◌≡◌, ◌+◌, ◌≤◌, ℕ, List, length}
use Rattle.std.specs.List.{slice_split}
use Rattle.sip_lex.specs.Cut.{is}
use Rattle.sip_digest.specs.declared.algorithm.Algorithms.{Algorithms}
use Rattle.sip_digest.specs.declared.users.UserList.{UserList}
use Rattle.sip_digest.specs.User.{User}
use Rattle.sip_digest.specs.UserView.{Has}
use Rattle.sip_digest.specs.inner.UsersReading.{read_from, read_users}

-- reading on from here gives what the whole gives
pub record IsSoFar {A : Type 0} (algorithms : Algorithms) (text : List ℕ) (list : UserList A) (number : ℕ) (rest : List ℕ) : Type 0 where
  pub users : List User
  pub has : Has list users
  pub reads : read_from algorithms number users (slice_split (is 10) rest) ≡ read_users algorithms text
  pub counted : number + length rest ≤ 1 + length text
