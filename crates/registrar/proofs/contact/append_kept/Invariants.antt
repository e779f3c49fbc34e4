use Rattle.std.proofs.Common.{◌≡◌, ◌++◌}
use Rattle.std.specs.Prelude.{filter}
use Rattle.sip_uri.specs.Uri.{params_text}
use Rattle.registrar.specs.Contact.{is_kept}
use Rattle.registrar.proofs.contact.append_kept.Given as goal

abbrev pub invariant-loop-param : goal.invariant-loop-param
invariant-loop-param g l =
    (goal.iterator-loop-param g).can_next l.params ×
    (goal.iterator-loop-param g).is_finite l.params ×
    (l.out.items ++ params_text (filter is_kept l.params) ≡ l.fn.out.items ++ params_text (filter is_kept l.initial.params))
