-- Which lines with credentials do not go on.
use Rattle.std.proofs.Common.{◌≡◌, ℕ, Bool, true, false, List, refl, codes}
use Rattle.std.specs.Prelude.{IsTrue, ◌↔◌, is_some}
use Rattle.sip_text.specs.Name.{same_name}
use Rattle.sip_digest.specs.AuthParam.{AuthParam}
use Rattle.sip_digest.specs.Credentials.{IsOfRealm}
use Rattle.sip_digest.specs.declared.reading.ReadCredentials.{ReadCredentials}
use Rattle.sip_digest.specs.declared.reading.ReadCredentials.TheVariants as reading
use Rattle.sip_digest.specs.SeenCredentials.{IsReadingOf, seen_reading}
use Rattle.sip_digest.specs.OwnCredentials.{IsTakenOff}

false_true : IsTrue false → ⊥
false_true e = absurd cc

differ : (b : Bool) → b ≡ false → b ≡ true → ⊥
differ b e f = absurd cc

module _ (realm name value : List ℕ) where
  pub other_name : same_name (codes "proxy-authorization") name ≡ false → IsTrue false ↔ IsTakenOff realm name value
  other_name h = (λ t. absurd (false_true t), λ is. absurd (differ (same_name (codes "proxy-authorization") name) h is.0))

  other_realm : ((params : List AuthParam) (whole : Bool) → IsOfRealm value realm params whole → ⊥) → IsTrue false ↔ IsTakenOff realm name value
  other_realm none = (λ t. absurd (false_true t), λ is. absurd (none is.1 is.2 is.3))

  of_realm : (params : List AuthParam) (whole : Bool) → same_name (codes "proxy-authorization") name ≡ true → IsOfRealm value realm params whole
      → IsTrue true ↔ IsTakenOff realm name value
  of_realm params whole named is = (λ t. (named, params, whole, is), λ k. refl)

  pub by_reading : {A : Type 0} (r : ReadCredentials A) → same_name (codes "proxy-authorization") name ≡ true → IsReadingOf value realm r
      → IsTrue (is_some (seen_reading r)) ↔ IsTakenOff realm name value
  by_reading reading.OtherRealm named found = other_realm found
  by_reading reading.Unreadable named found = of_realm found.0 found.1 named found.2
  by_reading (reading.Read c) named found = of_realm found.0 true named found.1
