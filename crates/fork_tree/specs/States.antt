-- The state that a branch's own state stands for, with the contacts left and the challenges kept beside it.
use Rattle.std.specs.Prelude.{Bool, true, false, List, []}
use Rattle.fork_model.specs.Table as spec
use Rattle.fork_tree.specs.declared.row.State.{State}
use Rattle.fork_tree.specs.declared.row.State.TheVariants as state
use Rattle.fork_tree.specs.declared.row.End.{End}
use Rattle.fork_tree.specs.declared.row.End.TheVariants as end

abbrev pub end_of : End → List spec.Offer → List spec.Challenge → spec.End
end_of (end.Stored status arrival received) left challenges =
    spec.Stored (record { status = status; arrival = arrival; received = received; left = left; challenges = challenges })
end_of (end.Taken arrival) left challenges = spec.Taken arrival
end_of (end.Silent arrival) left challenges = spec.Silent arrival
end_of end.Never left challenges = spec.Never
end_of (end.Accepted arrival) left challenges = spec.Accepted arrival

abbrev pub state_of : State → List spec.Offer → List spec.Challenge → spec.State
state_of state.Idle left challenges = spec.Idle
state_of state.Trying left challenges = spec.Trying
state_of (state.Rung cancelled) left challenges = spec.Rung cancelled
state_of (state.Ended end) left challenges = spec.Ended (end_of end left challenges)

-- a state with nothing beside it
abbrev pub plain_state : State → spec.State
plain_state s = state_of s [] []

-- a state without the contacts left and the challenges
abbrev pub shown_end : spec.End → End
shown_end (spec.Stored answer) = end.Stored answer.status answer.arrival answer.received
shown_end (spec.Taken arrival) = end.Taken arrival
shown_end (spec.Silent arrival) = end.Silent arrival
shown_end spec.Never = end.Never
shown_end (spec.Accepted arrival) = end.Accepted arrival

abbrev pub shown : spec.State → State
shown spec.Idle = state.Idle
shown spec.Trying = state.Trying
shown (spec.Rung cancelled) = state.Rung cancelled
shown (spec.Ended end) = state.Ended (shown_end end)

abbrev pub has_ended : State → Bool
has_ended state.Idle = false
has_ended state.Trying = false
has_ended (state.Rung cancelled) = false
has_ended (state.Ended end) = true
