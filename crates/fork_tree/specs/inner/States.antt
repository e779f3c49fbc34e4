-- The state that a branch's own state stands for, with the contacts left and the challenges kept beside it.
-- Here: what no public contract reaches.
use Rattle.fork_tree.specs.declared.row.State.{State}
use Rattle.fork_tree.specs.declared.row.State.TheVariants as state
use Rattle.fork_tree.specs.declared.row.End.TheVariants as end

-- where nothing that waits is ever tried
abbrev pub closed_state : State → State
closed_state state.Idle = state.Ended end.Never
closed_state state.Trying = state.Trying
closed_state (state.Rung cancelled) = state.Rung cancelled
closed_state (state.Ended end) = state.Ended end
