-- The credentials that came with a request (RFC 3261 sections 22.2, 22.3 and 20.7).
use Rattle.std.specs.Prelude.{◌≡◌, ◌⊎◌, ℕ, Bool, true, List, [], ◌∷◌, Option, Some, None, is_some}
use Rattle.sip_digest.specs.AuthParam.{AuthParam}
use Rattle.sip_digest.specs.Credentials.{Credentials, IsOfRealm, credentials_in}

-- what a value has for the realm: nothing; credentials that cannot be read; credentials
abbrev pub IsSaid : (value realm : List ℕ) → Option (Option Credentials) → Type 0
IsSaid value realm None = (params : List AuthParam) (whole : Bool) → IsOfRealm value realm params whole → ⊥
IsSaid value realm (Some read) = (params : List AuthParam) × (whole : Bool) × IsOfRealm value realm params whole × (credentials_in params whole ≡ read)

-- of several values the first that has something for the realm counts
abbrev pub IsGiven : List (List ℕ) → (realm : List ℕ) → Option (Option Credentials) → Type 0
IsGiven [] realm given = given ≡ None
IsGiven (value ∷ values) realm given = (IsSaid value realm None × IsGiven values realm given) ⊎ ((is_some given ≡ true) × IsSaid value realm given)
