use Rattle.fork_call.proofs.Common.{◌≡◌, take, least_of, moment_at}
use Rattle.fork_call.proofs.schedule.first_of.Given as goal

-- the earliest of the rows before this one stands at this place
abbrev pub invariant-loop-i : goal.invariant-loop-i
invariant-loop-i l = record {
  first : moment_at (take l.i l.moments) l.first ≡ least_of (take l.i l.moments);
  least : l.least ≡ least_of (take l.i l.moments);
}
