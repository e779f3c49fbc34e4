-- A service as a request finds it, in memory.
use Rattle.std.specs.Prelude.{ℕ, List, Option, Some, None}
use Rattle.std.specs.Borrow.{Bor}
use Rattle.sip_digest.specs.declared.secrets.Secrets.{Secrets}
use Rattle.sip_digest.specs.declared.users.UserList.{UserList}
use Rattle.sip_digest.specs.UserIndex.{secrets_at}
use Rattle.proxy_config.specs.declared.dialog_token.DialogToken.{DialogToken}
use Rattle.service_config.specs.Settings.{Realm}
use Rattle.service_decisions.specs.declared.view.ServiceView.{ServiceView}
use Rattle.service_decisions.specs.Serving.{Serving}

module _ {B : Type 0} where
  abbrev pub secrets_of : Option (Bor (UserList B)) → Option (List ℕ → Option Secrets)
  secrets_of None = None
  secrets_of (Some users) = Some (secrets_at users.now)

abbrev pub token_if : Option Realm → DialogToken → Option DialogToken
token_if None token = None
token_if (Some realm) token = Some token

module _ {B : Type 0} where
  abbrev pub serving_of : ServiceView B → Serving
  serving_of view = record {
    settings = view.settings.now;
    secrets = secrets_of view.users;
    secret = view.secret.now;
    token = token_if view.settings.now.realm (record { secret = view.secret.now; second = view.second });
    second = view.second;
    moment = view.moment;
  }
