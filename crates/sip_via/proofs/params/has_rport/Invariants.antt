use Rattle.sip_via.proofs.Common.{◌≡◌, list_any}
use Rattle.sip_via.specs.ViaParts.{is_rport}
use Rattle.sip_via.proofs.params.has_rport.Given as goal

abbrev pub invariant-loop-param : goal.invariant-loop-param
invariant-loop-param l =
    goal.iterator-loop-param.can_next l.params ×
    goal.iterator-loop-param.is_finite l.params ×
    (list_any (is_rport l.port) l.params ≡ list_any (is_rport l.port) l.initial.params)
