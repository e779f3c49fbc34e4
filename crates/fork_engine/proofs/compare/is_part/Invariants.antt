use Rattle.std.proofs.Common.{◌≡◌, ◌↔◌, map, length}
use Rattle.context_values.specs.EventView.{event_of}
use Rattle.fork_engine.specs.Interleaving.{part_of}
use Rattle.fork_engine.proofs.compare.is_part.Given as goal

abbrev pub invariant-loop-first : goal.invariant-loop-first
invariant-loop-first g l = (part_of l.tag l.rest ≡ map event_of l.left) ↔ (part_of l.tag l.history ≡ map event_of l.script)

abbrev pub decreases-loop-first : goal.decreases-loop-first
decreases-loop-first g l = length l.rest
