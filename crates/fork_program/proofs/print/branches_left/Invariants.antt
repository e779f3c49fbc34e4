use Rattle.fork_program.proofs.Common.{◌≡◌, ◌≤◌, take, count_by, not, is_ended}
use Rattle.fork_program.proofs.print.branches_left.Given as goal

abbrev pub invariant-loop-n : goal.invariant-loop-n
invariant-loop-n g l =
    (l.left ≡ count_by (λ row. not (is_ended row.state)) (take l.n l.context.table.rows)) × (l.left ≤ l.n)
