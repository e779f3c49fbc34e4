use Rattle.std.proofs.Common.{◌≡◌, ◌++◌}
use Rattle.call_journal.specs.Notes.{targets_text}
use Rattle.call_journal.proofs.notes.append_targets.Given as goal

abbrev pub invariant-loop-n : goal.invariant-loop-n
invariant-loop-n g l = l.out.items ≡ l.initial.out.items ++ targets_text l.n l.notes
