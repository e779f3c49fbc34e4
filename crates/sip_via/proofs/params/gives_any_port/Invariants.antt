use Rattle.sip_via.proofs.Common.{◌≡◌, list_any}
use Rattle.sip_via.specs.inner.Replies.{gives_port}
use Rattle.sip_via.proofs.params.gives_any_port.Given as goal

abbrev pub invariant-loop-param : goal.invariant-loop-param
invariant-loop-param l =
    goal.iterator-loop-param.can_next l.params ×
    goal.iterator-loop-param.is_finite l.params ×
    (list_any (gives_port l.port) l.params ≡ list_any (gives_port l.port) l.initial.params)
