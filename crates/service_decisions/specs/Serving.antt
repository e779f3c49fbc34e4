-- A service as a request finds it: by what it goes, who has a password, and when it is.
use Rattle.std.specs.Prelude.{ℕ, Bool, false, List, Option, Some, None, is_some, if◌then◌else◌}
use Rattle.std.specs.List.{list_all}
use Rattle.sip_digest.specs.declared.secrets.Secrets.{Secrets}
use Rattle.authentication.specs.Realm as authentication
use Rattle.authentication.specs.Realm.{is_realm_byte}
use Rattle.proxy_config.specs.declared.dialog_token.DialogToken.{DialogToken}
use Rattle.service_config.specs.Settings.{Realm, Settings}

pub record Serving : Type 0 where
  pub settings : Settings
  -- what the password of a user is known by, where there are users
  pub secrets : Option (List ℕ → Option Secrets)
  -- what nonces are made with
  pub secret : List ℕ
  -- what the token of a dialog is made with that begins now, where there is a realm
  pub token : Option DialogToken
  -- the second since 1970, and the millisecond by which bindings end
  pub second : ℕ
  pub moment : ℕ

abbrev pub is_known : Option (List ℕ → Option Secrets) → (user : List ℕ) → Bool
is_known None user = false
is_known (Some secrets) user = is_some (secrets user)

-- the realm that credentials are asked for: without users nobody has a password
abbrev pub realm_with : Option Realm → Option (List ℕ → Option Secrets) → (secret : List ℕ) → Option authentication.Realm
realm_with None secrets secret = None
realm_with (Some realm) None secret = None
realm_with (Some realm) (Some secrets) secret =
    if list_all is_realm_byte realm.text
    then Some (record { name = realm.text; algorithms = realm.algorithms; secrets = secrets; secret = secret })
    else None

abbrev pub realm_at : Serving → Option authentication.Realm
realm_at serving = realm_with serving.settings.realm serving.secrets serving.secret
