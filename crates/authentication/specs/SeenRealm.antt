-- A realm in memory.
use Rattle.std.specs.Prelude.{ℕ, List, Option, Some, None}
use Rattle.std.specs.Borrow.{Bor}
use Rattle.sip_digest.specs.declared.algorithm.Algorithms.{Algorithms}
use Rattle.sip_digest.specs.declared.users.UserList.{UserList}
use Rattle.sip_digest.specs.UserIndex.{secrets_at}
use Rattle.authentication.specs.declared.realm.RealmSecrets.{RealmSecrets}
use Rattle.authentication.specs.Realm as spec

module _ {U : Type 0} where
  abbrev pub realm_of : List ℕ → Algorithms → UserList U → List ℕ → spec.Realm
  realm_of name algorithms users secret = record { name = name; algorithms = algorithms; secrets = secrets_at users; secret = secret }

  abbrev pub seen_realm : RealmSecrets U → spec.Realm
  seen_realm realm = realm_of realm.name.now realm.algorithms realm.users.now realm.secret.now

  abbrev pub realm_if_any : Option (Bor (RealmSecrets U)) → Option spec.Realm
  realm_if_any None = None
  realm_if_any (Some realm) = Some (seen_realm realm.now)
