use Rattle.std.proofs.Common.{◌≡◌, ◌++◌, true, map}
use Rattle.std.specs.List.{list_all}
use Rattle.sip_lex.specs.Values.{is_value}
use Rattle.sip_build.specs.declared.responses.OwnStatus.TheVariants.{BadExtension}
use Rattle.registrar.specs.Asking.{unsupported}
use Rattle.registrar.proofs.asking.extension_answer.Given as goal

abbrev pub invariant-loop-value : goal.invariant-loop-value
invariant-loop-value g l =
    (goal.iterator-loop-value g).can_next l.values ×
    (goal.iterator-loop-value g).is_finite l.values ×
    ((l.answer.status ≡ BadExtension) × (l.answer.lines ++ map unsupported l.values ≡ map unsupported l.initial.values) × (list_all is_value l.values ≡ true))
