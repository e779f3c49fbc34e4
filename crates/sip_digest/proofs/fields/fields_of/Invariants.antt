use Rattle.sip_digest.proofs.Common.{◌≡◌, false, option_copied}
use Rattle.sip_digest.specs.inner.SeenFields.{seen_fields}
use Rattle.sip_digest.proofs.NamedFields.{IsSoFar, size}
use Rattle.sip_digest.proofs.fields.fields_of.Given as goal

abbrev pub invariant-loop-rest : goal.invariant-loop-rest
invariant-loop-rest l = IsSoFar (seen_fields l.fields) (option_copied l.rest) l.list × (l.fields.is_whole ≡ false)

abbrev pub decreases-loop-rest : goal.decreases-loop-rest
decreases-loop-rest l = size (option_copied l.rest)
