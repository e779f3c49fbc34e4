use Rattle.fork_context.proofs.Common.{◌≡◌, ◌≤◌, length, filter, vec_capacity, numbers_below, gets_cancel}
use Rattle.fork_context.proofs.ClosingRows.{cancelled_to}
use Rattle.fork_context.proofs.fork.Fork.cancel_rung.Given as goal

abbrev pub invariant-loop-n : goal.invariant-loop-n
invariant-loop-n g l =
    (l.self ≡ record l.initial.self { rows = cancelled_to l.n l.initial.self.kind l.initial.self.rows })
    × (l.cancelled.items ≡ filter (gets_cancel l.initial.self.kind l.initial.self.rows) (numbers_below l.n))
    × (length l.initial.self.rows ≤ vec_capacity l.cancelled)
