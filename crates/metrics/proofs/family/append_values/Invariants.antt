use Rattle.std.proofs.Common.{◌≡◌, ◌++◌, take}
use Rattle.metrics.specs.Metrics.{labelled_text}
use Rattle.metrics.proofs.family.append_values.Given as goal

abbrev pub invariant-loop-labelled : goal.invariant-loop-labelled
invariant-loop-labelled g l = l.out.items ≡ l.initial.out.items ++ labelled_text l.name l.label (take l.labelled-index l.values)
