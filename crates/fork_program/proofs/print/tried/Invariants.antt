use Rattle.fork_program.proofs.Common.{◌≡◌, slice_get, filter, is_row, is_trying, numbers_below}
use Rattle.fork_program.proofs.print.tried.Given as goal

abbrev pub invariant-loop-n : goal.invariant-loop-n
invariant-loop-n g l =
    l.numbers.items ≡ filter (λ n. is_row is_trying (slice_get l.context.table.rows n)) (numbers_below l.n)
