use Rattle.std.proofs.Common.{◌≡◌}
use Rattle.std.specs.Prelude.{codes, find}
use Rattle.sip_uri.specs.Uri.{is_named}
use Rattle.authentication.proofs.dialog.d_of.Given as goal

abbrev pub invariant-loop-param : goal.invariant-loop-param
invariant-loop-param l =
    goal.iterator-loop-param.can_next l.params ×
    goal.iterator-loop-param.is_finite l.params ×
    (find (is_named (codes "d")) l.params ≡ find (is_named (codes "d")) l.initial.params)
