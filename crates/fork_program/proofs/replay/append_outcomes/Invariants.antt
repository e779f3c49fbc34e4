use Rattle.fork_program.proofs.Common.{◌≡◌, ◌++◌, List, map, length, Event, event_of, AddsOutcomes}
use Rattle.fork_program.proofs.replay.append_outcomes.Given as goal

-- the events offered so far have their lines
abbrev pub invariant-loop-event : goal.invariant-loop-event
invariant-loop-event g l =
    (offered : List Event)
    × (map event_of l.initial.events.items ≡ offered ++ map event_of l.events.items)
    × AddsOutcomes l.initial.context l.context offered l.initial.text.items l.text.items

abbrev pub decreases-loop-event : goal.decreases-loop-event
decreases-loop-event g l = length l.events.items
