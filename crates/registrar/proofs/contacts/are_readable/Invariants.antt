use Rattle.std.proofs.Common.{◌≡◌}
use Rattle.std.specs.List.{list_all}
use Rattle.registrar.specs.Contacts.{is_readable}
use Rattle.registrar.proofs.contacts.are_readable.Given as goal

abbrev pub invariant-loop-line : goal.invariant-loop-line
invariant-loop-line g l =
    (goal.iterator-loop-line g).can_next l.lines ×
    (goal.iterator-loop-line g).is_finite l.lines ×
    (list_all is_readable l.lines ≡ list_all is_readable l.initial.lines)
