use Rattle.sip_via.proofs.Common.{◌≡◌, list_all, is_param}
use Rattle.sip_via.proofs.params.are_params.Given as goal

abbrev pub invariant-loop-param : goal.invariant-loop-param
invariant-loop-param l =
    goal.iterator-loop-param.can_next l.params ×
    goal.iterator-loop-param.is_finite l.params ×
    (list_all is_param l.params ≡ list_all is_param l.initial.params)
