use Rattle.std.proofs.Common.{◌≡◌}
use Rattle.std.specs.List.{list_all}
use Rattle.registrar.specs.Contact.{is_over}
use Rattle.registrar.proofs.transport.all_over.Given as goal

abbrev pub invariant-loop-param : goal.invariant-loop-param
invariant-loop-param l =
    goal.iterator-loop-param.can_next l.params ×
    goal.iterator-loop-param.is_finite l.params ×
    (list_all (is_over l.transport) l.params ≡ list_all (is_over l.transport) l.initial.params)
