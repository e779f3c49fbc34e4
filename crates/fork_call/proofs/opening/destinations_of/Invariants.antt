use Rattle.fork_call.proofs.OpeningCommon.{◌≡◌, map, take, Some, table_of, destination_of_row}
use Rattle.fork_call.proofs.opening.destinations_of.Given as goal

abbrev pub invariant-loop-n : goal.invariant-loop-n
invariant-loop-n g l = map Some l.destinations.items ≡ map (destination_of_row l.opened.large l.candidates) (take l.n (table_of l.book).rows)
