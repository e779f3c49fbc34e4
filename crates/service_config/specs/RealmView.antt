-- A realm that is lent.
use Rattle.std.specs.Prelude.{◌≡◌}
use Rattle.service_config.specs.Settings as spec
use Rattle.service_config.specs.declared.realm.Realm.{Realm}

abbrev pub realm_of : Realm → spec.Realm
realm_of realm = record { text = realm.text.now; algorithms = realm.algorithms }
