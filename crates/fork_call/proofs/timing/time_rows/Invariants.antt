use Rattle.fork_call.proofs.Common.{◌≡◌, take, timed}
use Rattle.fork_call.proofs.timing.time_rows.Given as goal

-- the rows before this one are timed anew
abbrev pub invariant-loop-n : goal.invariant-loop-n
invariant-loop-n g l = l.schedule ≡ timed l.state (take l.n-index l.rows) l.fn.schedule
