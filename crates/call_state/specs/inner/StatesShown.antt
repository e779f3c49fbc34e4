-- Where a branch is, as its row is shown.
use Rattle.std.specs.Prelude.{Bool, not, true, false, Option, Some}
use Rattle.fork_model.specs.Table.{Row}
use Rattle.fork_tree.specs.declared.row.State.{State}
use Rattle.fork_tree.specs.declared.row.State.TheVariants as state
use Rattle.fork_tree.specs.declared.row.End.{End}
use Rattle.fork_tree.specs.declared.row.End.TheVariants as end
use Rattle.fork_tree.specs.States.{shown}

abbrev pub state_shown : Row → State
state_shown row = shown row.state

abbrev pub shows_trying : Option State → Bool
shows_trying (Some state.Trying) = true
shows_trying _ = false

abbrev pub shows_open : Option State → Bool
shows_open (Some state.Trying) = true
shows_open (Some (state.Rung cancelled)) = true
shows_open _ = false

abbrev pub shows_cancelled : Option State → Bool
shows_cancelled (Some (state.Rung cancelled)) = cancelled
shows_cancelled _ = false

abbrev pub shows_timer_c : Option State → Bool
shows_timer_c (Some state.Trying) = true
shows_timer_c (Some (state.Rung cancelled)) = not cancelled
shows_timer_c _ = false

abbrev pub is_received_end : End → Bool
is_received_end (end.Stored status arrival received) = received
is_received_end _ = false

abbrev pub shows_received : Option State → Bool
shows_received (Some (state.Ended end)) = is_received_end end
shows_received _ = false
