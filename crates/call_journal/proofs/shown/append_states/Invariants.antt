use Rattle.std.proofs.Common.{◌≡◌, ◌++◌}
use Rattle.std.specs.List.{flat_map, range_with_len}
use Rattle.call_journal.specs.Shown.{row_text}
use Rattle.call_journal.proofs.shown.append_states.Given as goal

abbrev pub invariant-loop-n : goal.invariant-loop-n
invariant-loop-n g l = l.out.items ≡ l.initial.out.items ++ flat_map (row_text l.context.table.rows) (range_with_len 0 l.n)
