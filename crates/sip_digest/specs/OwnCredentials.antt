-- Credentials for the proxy's own realm, which do not go on with a request (RFC 3261 section 22.3).
use Rattle.std.specs.Prelude.{◌≡◌, ◌⊎◌, ℕ, Bool, true, List, [], ◌∷◌, codes}
use Rattle.sip_text.specs.Name.{same_name}
use Rattle.sip_text.specs.Text.{HeaderText}
use Rattle.sip_digest.specs.AuthParam.{AuthParam}
use Rattle.sip_digest.specs.Credentials.{IsOfRealm}

-- a Proxy-Authorization line whose value is credentials for the realm, such as can be read or not
abbrev pub IsTakenOff : (realm : List ℕ) → (name value : List ℕ) → Type 0
IsTakenOff realm name value = (same_name (codes "proxy-authorization") name ≡ true) × (params : List AuthParam) × (whole : Bool) × IsOfRealm value realm params whole

-- the other lines, as they stand and in their order
abbrev pub IsWithoutCredentials : (realm : List ℕ) → (old new : List HeaderText) → Type 0
IsWithoutCredentials realm [] new = new ≡ []
IsWithoutCredentials realm (h ∷ hs) new =
    (IsTakenOff realm h.name h.value × IsWithoutCredentials realm hs new)
    ⊎ ((IsTakenOff realm h.name h.value → ⊥) × (rest : List HeaderText) × (new ≡ h ∷ rest) × IsWithoutCredentials realm hs rest)
