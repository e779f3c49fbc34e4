use Rattle.sip_via.proofs.Common.{◌≡◌, first_named}
use Rattle.sip_via.proofs.params.first_param.Given as goal

abbrev pub invariant-loop-param : goal.invariant-loop-param
invariant-loop-param l =
    goal.iterator-loop-param.can_next l.params ×
    goal.iterator-loop-param.is_finite l.params ×
    (first_named l.name l.params ≡ first_named l.name l.initial.params)
