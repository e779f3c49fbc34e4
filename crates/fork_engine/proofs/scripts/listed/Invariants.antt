use Rattle.std.proofs.Common.{◌≡◌, ◌++◌, length}
use Rattle.fork_engine.proofs.scripts.listed.Given as goal

abbrev pub invariant-loop-event : goal.invariant-loop-event
invariant-loop-event g l = l.initial.events.items ≡ l.list.items ++ l.events.items

abbrev pub decreases-loop-event : goal.decreases-loop-event
decreases-loop-event g l = length l.events.items
