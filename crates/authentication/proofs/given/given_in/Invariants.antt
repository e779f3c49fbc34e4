use Rattle.std.proofs.Common.{Option}
use Rattle.sip_digest.specs.Credentials.{Credentials}
use Rattle.authentication.specs.Given.{IsGiven}
use Rattle.authentication.proofs.given.given_in.Given as goal

abbrev pub invariant-loop-value : goal.invariant-loop-value
invariant-loop-value g l =
    (goal.iterator-loop-value g).can_next l.values ×
    (goal.iterator-loop-value g).is_finite l.values ×
    ((given : Option (Option Credentials)) → IsGiven l.values l.realm given → IsGiven l.initial.values l.realm given)
