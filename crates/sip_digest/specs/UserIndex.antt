-- What users have, by their names, as a list in memory has it.
use Rattle.std.specs.Prelude.{ℕ, List, Option, Vec}
use Rattle.std.specs.BTreeMap.{get_by}
use Rattle.std.specs.Cmp.Lexicographic.{slice_cmp}
use Rattle.std.specs.Ordering.{nat_cmp}
use Rattle.sip_digest.specs.declared.secrets.Secrets.{Secrets}
use Rattle.sip_digest.specs.declared.users.UserList.{UserList}

module _ {A : Type 0} where
  abbrev pub secrets_at : UserList A → List ℕ → Option Secrets
  secrets_at list name = get_by (λ (other : Vec ℕ A). slice_cmp nat_cmp name other.items) list.users
