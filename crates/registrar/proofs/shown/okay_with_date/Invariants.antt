use Rattle.std.proofs.Common.{◌≡◌}
use Rattle.std.specs.Prelude.{fold}
use Rattle.sip_build.specs.declared.responses.OwnStatus.TheVariants.{Okay}
use Rattle.authentication.specs.Answer.{plain}
use Rattle.registrar.specs.Shown.{with_contact}
use Rattle.registrar.proofs.shown.okay_with_date.Given as goal

abbrev pub invariant-loop-binding : goal.invariant-loop-binding
invariant-loop-binding g l =
    (goal.iterator-loop-binding g).can_next l.there ×
    (goal.iterator-loop-binding g).is_finite l.there ×
    (fold (with_contact l.moment) l.answer l.there ≡ fold (with_contact l.moment) (plain Okay) l.initial.there)
