use Rattle.fork_context.proofs.Common.{◌≡◌, ◌≤◌, ◌+◌, ◌++◌, length, vec_capacity, numbers_from}
use Rattle.fork_context.proofs.fork.push_numbers.Given as goal

abbrev pub invariant-loop-n : goal.invariant-loop-n
invariant-loop-n g l =
    (l.numbers.items ≡ l.initial.numbers.items ++ numbers_from l.first l.n)
    × (length l.initial.numbers.items + l.count ≤ vec_capacity l.numbers)
