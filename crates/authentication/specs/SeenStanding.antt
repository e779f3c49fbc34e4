-- What is known of a sender, as lists.
use Rattle.authentication.specs.declared.standing.Standing.{Standing}
use Rattle.authentication.specs.declared.standing.Standing.TheVariants as standing
use Rattle.sip_digest.specs.SeenCredentials.{seen_text}
use Rattle.authentication.specs.Standing as spec

module _ {A : Type 0} where
  abbrev pub seen_standing : Standing A → spec.Standing
  seen_standing standing.Unasked = spec.Unasked
  seen_standing standing.Anonymous = spec.Anonymous
  seen_standing standing.Unusable = spec.Unusable
  seen_standing standing.Stale = spec.Stale
  seen_standing (standing.Wrong name) = spec.Wrong (seen_text name)
  seen_standing (standing.Right name) = spec.Right (seen_text name)
