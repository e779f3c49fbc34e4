use Rattle.std.proofs.Common.{◌≡◌}
use Rattle.authentication.specs.Form.{param_named}
use Rattle.authentication.proofs.form.param_named.Given as goal

abbrev pub invariant-loop-param : goal.invariant-loop-param
invariant-loop-param l =
    goal.iterator-loop-param.can_next l.params ×
    goal.iterator-loop-param.is_finite l.params ×
    (param_named l.name l.params ≡ param_named l.name l.initial.params)
