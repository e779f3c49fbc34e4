-- The rows of a table that closes (RFC 3261 sections 16.7 step 5 and 16.10).
-- Here: what no public contract reaches.
use Rattle.std.specs.Prelude.{ℕ, ◌&&◌, Bool, true, false, not, List, slice_get, if◌then◌else◌}
use Rattle.fork_model.specs.Table.{Kind, Row, State, Idle, Trying, Rung, Ended, is_row, is_invite}
use Rattle.fork_tree.specs.Closing.{never_tried}

-- it has rung, and no CANCEL was sent
abbrev pub is_ringing : State → Bool
is_ringing Idle = false
is_ringing Trying = false
is_ringing (Rung cancelled) = not cancelled
is_ringing (Ended end) = false

-- a row that waits is never tried
abbrev pub never_state : State → State
never_state state = never_tried state

abbrev pub never_row : Row → Row
never_row row = record row { state = never_state row.state }

-- an INVITE's row that rings gets its CANCEL
abbrev pub cancel_row : Kind → Row → Row
cancel_row kind row = record row { state = if is_ringing row.state && is_invite kind then Rung true else row.state }

abbrev pub gets_cancel : Kind → List Row → ℕ → Bool
gets_cancel kind rows k = is_row is_ringing (slice_get rows k) && is_invite kind
