use Rattle.fork_call.proofs.Common.{◌≡◌, take, scheduled}
use Rattle.fork_call.proofs.timing.schedule_of.Given as goal

-- the rows before this one have their moments
abbrev pub invariant-loop-n : goal.invariant-loop-n
invariant-loop-n g l = l.schedule ≡ take l.n (scheduled l.state)
