use Rattle.std.proofs.Common.{◌≡◌, take}
use Rattle.std.specs.List.{filter_map}
use Rattle.call_journal.specs.Why.{stored_status}
use Rattle.call_journal.proofs.why.stored_statuses.Given as goal

abbrev pub invariant-loop-n : goal.invariant-loop-n
invariant-loop-n g l = l.statuses.items ≡ filter_map stored_status (take l.n l.context.table.rows)
